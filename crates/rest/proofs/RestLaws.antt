-- The other edges landed anew: the ways out of the code.
use mathlib.Core.Path.{◌≡◌, sym, ap, ◌∙◌}
use Prim.Native.Nat.{ℕ, ◌+◌, ◌-◌}
use mathlib.Core.Bool.{Bool, false}
use mathlib.Core.List.{List}
use Rattle.model.specs.Tables.{Tables, Counts}
use Rattle.counters.specs.Answers.{counts}
use Rattle.insertion.specs.Insertion.{AnswerIn, LandingIn, done, landing_in, refused_in}
use Rattle.holding.specs.Replay.{replay_in}
use Rattle.rest.specs.Rest.{rest_in}

tables_of_lem : {x y : LandingIn} → x ≡ y → x.tables ≡ y.tables
tables_of_lem e = ap (λ (l : LandingIn). l.tables) e

answer_of : {x y : LandingIn} → x ≡ y → x.answer ≡ y.answer
answer_of e = ap (λ (l : LandingIn). l.answer) e

module _ (ends lengths volumes : List ℕ) (c : Counts) (d : ℕ) (t t' : Tables) (a : AnswerIn)
    (e : landing_in t' a ≡ replay_in ends lengths volumes d 0 t (counts c.vertices 0 0 0) false) where
  pub rest_on : (c' : Counts) (rings : Bool) (l : LandingIn) → a ≡ done c' rings → l ≡ replay_in ends lengths volumes (c.edges - (d + 1)) (d + 1) t' c' rings
      → l ≡ rest_in ends lengths volumes c d t
  unfolding rest_in
  rest_on c' rings l q h = rw (sym (answer_of e) ∙ q, rest_in, ← tables_of_lem e) h

  pub rest_refused : (x : ℕ) → a ≡ refused_in x → landing_in t' (refused_in x) ≡ rest_in ends lengths volumes c d t
  unfolding rest_in
  rest_refused x q = rw (sym (answer_of e) ∙ q, rest_in) (ap (landing_in t') (sym q) ∙ e)
