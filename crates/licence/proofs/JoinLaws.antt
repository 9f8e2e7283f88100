-- From what is left of the own house, and of the counts of removals, to what is left of all that is lent.
use mathlib.Core.Path.{◌≡◌, ◌∙◌}
use Prim.Native.Nat.{ℕ}
use mathlib.Core.Bool.{Bool}
use mathlib.Core.List.{List}
use lib.ListN.{get_or, set}
use Rattle.model.specs.Queries.{Reply}
use Rattle.model.specs.Tables.{Tables, no_counts}
use Rattle.nursery.specs.Nursery.{stored_in, tables_in}
use Rattle.admission.specs.Own as own
use Rattle.admission.specs.Lent as lent_of
use Rattle.heads.specs.declared.heads.Heads.{Heads}
use Rattle.heads.specs.Meaning.{as_heads, as_removals, lent, nursery, outcome}
use Rattle.licence.specs.Gate.{opens_with, pass_others, scratch_passed}
use Rattle.licence.specs.Left.{left, put_own}
use Rattle.licence.proofs.PassLaws.{open_known}
use Rattle.licence.proofs.StepLaws.{joined, own_lent}

-- tables, heads and scratch, with the house's put among the eight; the counts; the slice and the answer
pub all_left : (t t' s : Tables) (heads heads' : Heads) (ss xs : List ℕ) (house : ℕ) (a : Reply) (o : own.Outcome) (k : ℕ)
    → left t' (as_heads heads') s xs a ≡ put_own house t (as_heads heads) o → as_removals heads' ≡ set (as_removals heads) house k
    → outcome t' heads' ss s xs a ≡ joined house (nursery t heads ss) o k
unfolding put_own
all_left t t' s heads heads' ss xs house a o k e r =
    λ i.
    record {
      lent = record {
        nursery = record { tables = (e i).tables; heads = (e i).heads; removals = r i; shares = ss };
        scratch = (e i).scratch;
      };
      slice = (e i).slice;
      reply = (e i).reply;
    }

-- what the call on the tables of one house is given behind the gate is what is lent of its house, the scratch cleared
abbrev pub own_given : Tables → Heads → Tables → ℕ → own.Lent
own_given t heads s house = lent_of.lent (tables_in house t) (get_or (as_heads heads) house no_counts) s

pub own_is : (t s s' : Tables) (heads : Heads) (ss : List ℕ) (house limit : ℕ) (g : Bool) → opens_with limit ≡ pass_others house g (lent t heads ss s)
    → s' ≡ scratch_passed (lent t heads ss s) → own_given t heads s' house ≡ own_lent house (nursery t heads ss)
unfolding stored_in
own_is t s s' heads ss house limit g e z = rw (z ∙ (open_known t heads ss s house g limit e).2)
