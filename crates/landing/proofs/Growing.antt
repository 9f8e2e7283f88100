-- What a list leaves that is landed on cleared tables: the tables, the counts and the answer that model defines.
use mathlib.Core.Path.{◌≡◌, refl}
use Prim.Native.Nat.{ℕ}
use mathlib.Core.List.{List}
use Rattle.model.specs.Basics.{max_edges}
use Rattle.model.specs.Register.{empty}
use Rattle.model.specs.Format.{grow_list, land_list}
use Rattle.model.specs.Tables.{tables_of, counts_of, cleared, no_counts}
use Rattle.model.proofs.Computing.{computing}
use Rattle.theory.proofs.Registers.Reachable.{reachable_empty}
use Rattle.landing.specs.Records.{land_list_in}
use Rattle.landing.proofs.ListAgrees.{list_agrees, shown_read}

-- the empty register has cleared tables and no counts
pub empty_tables : tables_of empty ≡ cleared
unfolding computing
empty_tables = refl

empty_counts : counts_of empty ≡ no_counts
unfolding computing
empty_counts = refl

-- a list on cleared tables leaves what it leaves on the empty register
pub empty_agrees : (limit : ℕ) (bs : List ℕ) → land_list_in cleared no_counts limit bs ≡ shown_read (land_list limit empty bs)
empty_agrees limit bs = rw (empty_tables, empty_counts) at (list_agrees limit empty bs reachable_empty)

-- growing from a list on cleared tables leaves what `grow_list` says
pub list_leaves : (bs : List ℕ) → land_list_in cleared no_counts max_edges bs ≡ shown_read (grow_list bs)
unfolding grow_list
list_leaves bs = empty_agrees max_edges bs
