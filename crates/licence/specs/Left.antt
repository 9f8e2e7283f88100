-- What a call leaves of the tables and heads of eight houses, and answers.
use Rattle.std.specs.Prelude.{ℕ, List, set}
use Rattle.model.specs.Queries.{Reply}
use Rattle.model.specs.Tables.{Counts, Tables}
use Rattle.nursery.specs.Nursery.{put_tables}
use Rattle.admission.specs.Own as own

-- tables, heads, scratch, the lent slice and the answer
pub record Left : Type 0 where
  pub tables : Tables
  pub heads : List Counts
  pub scratch : Tables
  pub slice : List ℕ
  pub reply : Reply

abbrev pub left : Tables → List Counts → Tables → List ℕ → Reply → Left
left t heads s xs a = record { tables = t; heads = heads; scratch = s; slice = xs; reply = a }

-- what was done on the part of house h, put among the eight
unfoldable pub put_own : ℕ → Tables → List Counts → own.Outcome → Left
put_own h t heads o = left (put_tables h o.lent.stored.tables t) (set heads h o.lent.stored.counts) o.lent.scratch o.slice o.reply
