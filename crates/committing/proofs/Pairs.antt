-- A quote and its commit land an edge.
use mathlib.Core.Path.{◌≡◌, refl, ap, ◌∙◌}
use mathlib.Core.Bool.{Bool}
use Prim.Native.Nat.{ℕ}
use Rattle.model.specs.Graph.{Edge}
use Rattle.model.specs.Tables.{Tables, Counts}
use Rattle.checking.specs.Checks.{CheckIn, check_in, failed, passed}
use Rattle.placement.specs.Placing.{work_for}
use Rattle.placement.specs.Planning.{plan_for}
use Rattle.placement.proofs.Plans.{planned_is}
use Rattle.insertion.specs.Insertion.{LandingIn, insert_in, land_checked, land_in}
use Rattle.insertion.specs.Planned.{insert_planned}
use Rattle.quoting.specs.Quoting.{case_in}
use Rattle.quoting.specs.Intents.{intent_for, intent_in}
use Rattle.quoting.specs.Meaning.{as_intent}
use Rattle.quoting.specs.declared.edges.Intent.{Intent}
use Rattle.counters.specs.declared.refusals.Refusal.{Refusal}
use Rattle.std.specs.Prelude.{Result}
use Rattle.committing.specs.Committing.{committed_in}

inserted_is : (t : Tables) (c : Counts) (rings : Bool) (a b n v : ℕ)
    → insert_planned (plan_for (work_for (case_in t.degrees a b) a b) t.degrees t.sides t.ends a b c.edges rings) t c rings
    (record { first = a; second = b; len = n; volume = v })
    ≡ insert_in t c rings (record { first = a; second = b; len = n; volume = v })
unfolding insert_planned insert_in
inserted_is t c rings a b n v =
    rw (planned_is t.degrees t.sides t.ends t.labels c.blocks a b c.edges rings (work_for (case_in t.degrees a b) a b))

checked_lands : (t : Tables) (c : Counts) (rings : Bool) (e : Edge) (k : CheckIn)
    → committed_in t c rings (intent_for t.degrees t.sides t.ends c.edges rings k) ≡ land_checked t c rings e k
checked_lands t c rings e (passed a b n v) = inserted_is t c rings a b n v
checked_lands t c rings e (failed x) = refl

pair_lands : (t : Tables) (c : Counts) (limit : ℕ) (rings : Bool) (e : Edge)
    → committed_in t c rings (intent_in t.degrees t.sides t.ends c limit rings e) ≡ land_in t c limit rings e
unfolding intent_in land_in
pair_lands t c limit rings e = checked_lands t c rings e (check_in c limit e)

-- "Landing a list is amended to go through the pair for each pipe": what was intended with a quote made now is committed
pub pair_law : (t : Tables) (c : Counts) (limit : ℕ) (rings : Bool) (e : Edge) (k : Result Intent Refusal) (x : LandingIn)
    → as_intent k ≡ intent_in t.degrees t.sides t.ends c limit rings e → x ≡ committed_in t c rings (as_intent k) → x ≡ land_in t c limit rings e
pair_law t c limit rings e k x h g = g ∙ ap (committed_in t c rings) h ∙ pair_lands t c limit rings e

-- a commit goes on as its intent says
pub intent_given : (t : Tables) (c : Counts) (rings : Bool) (k k' : Result Intent Refusal) (x : LandingIn) → k ≡ k' → x ≡ committed_in t c rings (as_intent k')
    → x ≡ committed_in t c rings (as_intent k)
intent_given t c rings k k' x q h = rw q h
