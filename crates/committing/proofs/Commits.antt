-- The ways out of a commit: the quote is another than the one made now, or its edge is landed.
use mathlib.Core.Path.{◌≡◌}
use Prim.Native.Nat.{ℕ}
use mathlib.Core.Bool.{Bool, true, false}
use Rattle.model.specs.Register.{Quote, eq_quote}
use Rattle.model.specs.Tables.{Tables, Counts}
use Rattle.insertion.specs.Insertion.{AnswerIn, land_in, landing_in, refused_in}
use Rattle.quoting.specs.Quoting.{quote_in}
use Rattle.committing.specs.Committing.{commit_in}

module _ (t : Tables) (c : Counts) (limit : ℕ) (rings : Bool) (q made : Quote) (same : Bool)
    (h : made ≡ quote_in t.degrees t.sides t.ends t.labels c limit rings q.asked) (g : same ≡ eq_quote q made) where
  -- the quote made now is another: 32, and the tables stay
  pub commit_differs : same ≡ false → landing_in t (refused_in 32) ≡ commit_in t c limit rings q
  unfolding commit_in
  commit_differs e = rw (← h, ← g, e)

  -- the quote made now is the same: the edge is landed
  pub commit_lands : (t' : Tables) (a : AnswerIn) → same ≡ true → landing_in t' a ≡ land_in t c limit rings q.asked → landing_in t' a ≡ commit_in t c limit rings q
  unfolding commit_in
  commit_lands t' a e l = rw (← h, ← g, e) l
