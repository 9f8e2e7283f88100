-- A removal on the tables of one house, as a function that mirrors the code.
use Rattle.std.specs.Prelude.{ℕ, List}
use Rattle.model.specs.Queries.{refuses}
use Rattle.model.specs.Tables.{Tables, Counts}
use Rattle.tables.specs.Steps.{zeroed}
use Rattle.insertion.specs.Insertion.{done, refused_in}
use Rattle.admission.specs.Own.{Outcome}
use Rattle.admission.specs.Lent.{outcome}
use Rattle.rest.specs.Rest.{rest_in}
use Rattle.settling.specs.Settling.{settled_in}

-- edge d taken out of t with the counts c, over scratch s that comes cleared
unfoldable pub removed_in : Tables → Counts → Tables → ℕ → List ℕ → Outcome
removed_in t c s d slice =
    let l = rest_in t.ends t.lengths t.volumes c d s in
    elim l.answer [
      | done c' rings ↦ settled_in t c l.tables c' slice
      | refused_in x ↦ outcome t c (zeroed l.tables) slice (refuses x)
    ]
