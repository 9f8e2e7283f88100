-- What the structs of lent slices stand for.
use Rattle.std.specs.Prelude.{◌≡◌, length}
use Rattle.model.specs.Tables.{Tables}
use Rattle.tables.specs.Meaning.{tables}
use Rattle.lent.specs.declared.slices.View.{View}
use Rattle.lent.specs.declared.slices.Tables.{Tables as LentTables}

abbrev pub of_view : View → Tables
of_view v = tables v.degrees.now v.sides.now v.ends.now v.lengths.now v.volumes.now v.labels.now

abbrev pub of_lent : LentTables → Tables
of_lent t = tables t.degrees.now t.sides.now t.ends.now t.lengths.now t.volumes.now t.labels.now

-- the same slices are lent, of the same lengths, whatever they hold
pub record SameLent (s t : LentTables) : Type 0 where
  pub degrees : s.degrees.ghost_name ≡ t.degrees.ghost_name
  pub sides : s.sides.ghost_name ≡ t.sides.ghost_name
  pub ends : s.ends.ghost_name ≡ t.ends.ghost_name
  pub lengths : s.lengths.ghost_name ≡ t.lengths.ghost_name
  pub volumes : s.volumes.ghost_name ≡ t.volumes.ghost_name
  pub labels : s.labels.ghost_name ≡ t.labels.ghost_name
  pub degrees_long : length s.degrees.now ≡ length t.degrees.now
  pub sides_long : length s.sides.now ≡ length t.sides.now
  pub ends_long : length s.ends.now ≡ length t.ends.now
  pub lengths_long : length s.lengths.now ≡ length t.lengths.now
  pub volumes_long : length s.volumes.now ≡ length t.volumes.now
  pub labels_long : length s.labels.now ≡ length t.labels.now
