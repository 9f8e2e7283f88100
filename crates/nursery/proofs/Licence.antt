-- Document 02, S-10: the licence of one house as a number, and the sum that never passes 4,096. Pure lists, with a share for each house.
use mathlib.Core.Path.{◌≡◌, refl, sym, ap}
use Prim.Native.Nat.{ℕ, zero, suc, ◌+◌, ◌-◌, ◌≤◌, ◌<◌, max}
use native.Mathlib.Omega.{arith}
use mathlib.Core.Bool.{Bool, true, false, ◌||◌}
use mathlib.Core.List.{List, [], ◌∷◌}
use lib.ListN.{length, get_or, set}
use lib.Seq.{set-set}
use lib.Dec.{ltb}
use borrow.Author.Tests.{lt-ltb, le-ltb, ltb-true, ltb-false}
use Rattle.model.specs.Basics.{sum}
use Rattle.nursery.specs.Licence.{licence, reserves, overfull, unused, may_land, limit_of}

-- ---- sums of lists

sum_put : (xs : List ℕ) (h x : ℕ) → h < length xs → sum (set xs h x) ≡ x + sum (set xs h 0)
unfolding sum
sum_put [] h x l = absurd (omega arith)
sum_put (y ∷ xs) zero x l = omega arith
sum_put (y ∷ xs) (suc h) x l = omega (arith, sum_put xs h x (omega arith))

sum_but : (xs : List ℕ) (h : ℕ) → h < length xs → sum xs ≡ get_or xs h 0 + sum (set xs h 0)
unfolding sum
sum_but [] h l = absurd (omega arith)
sum_but (x ∷ xs) zero l = omega arith
sum_but (x ∷ xs) (suc h) l = omega (arith, sum_but xs h (omega arith))

-- ---- the larger of share and edges

-- the number of each house in the list is the larger of its own two
pub reserve_at : (ss ns : List ℕ) (h : ℕ) → length ss ≡ length ns → h < length ss → get_or (reserves ss ns) h 0 ≡ max (get_or ss h 0) (get_or ns h 0)
unfolding reserves
reserve_at [] ns h e l = absurd (omega arith)
reserve_at (s ∷ ss) [] h e l = absurd (omega arith)
reserve_at (s ∷ ss) (n ∷ ns) zero e l = refl
reserve_at (s ∷ ss) (n ∷ ns) (suc h) e l = reserve_at ss ns h (omega arith) (omega arith)

-- there is one for each house
pub reserves_long : (ss ns : List ℕ) → length ss ≡ length ns → length (reserves ss ns) ≡ length ss
unfolding reserves
reserves_long [] ns e = refl
reserves_long (s ∷ ss) [] e = absurd (omega arith)
reserves_long (s ∷ ss) (n ∷ ns) e = omega (arith, reserves_long ss ns (omega arith))

reserves_set : (ss ns : List ℕ) (h n : ℕ) → length ss ≡ length ns → h < length ss
    → reserves ss (set ns h n) ≡ set (reserves ss ns) h (max (get_or ss h 0) n)
unfolding reserves
reserves_set [] ns h n e l = absurd (omega arith)
reserves_set (s ∷ ss) [] h n e l = absurd (omega arith)
reserves_set (s ∷ ss) (m ∷ ns) zero n e l = refl
reserves_set (s ∷ ss) (m ∷ ns) (suc h) n e l = ap (λ (xs : List ℕ). max s m ∷ xs) (reserves_set ss ns h n (omega arith) (omega arith))

-- the edges of all are within the sum
pub edges_most : (ss ns : List ℕ) → length ss ≡ length ns → sum ns ≤ sum (reserves ss ns)
unfolding reserves sum
edges_most [] [] e = omega arith
edges_most [] (n ∷ ns) e = absurd (omega arith)
edges_most (s ∷ ss) [] e = absurd (omega arith)
edges_most (s ∷ ss) (n ∷ ns) e = omega (arith, edges_most ss ns (omega arith))

-- no edges: the shares alone
abbrev pub AllZero : List ℕ → Type 0
AllZero [] = Unit {0}
AllZero (x ∷ xs) = (x ≡ 0) × AllZero xs

pub shares_alone : (ss ns : List ℕ) → AllZero ns → sum (reserves ss ns) ≤ sum ss
unfolding reserves sum
shares_alone [] ns z = omega arith
shares_alone (s ∷ ss) [] z = omega arith
shares_alone (s ∷ ss) (n ∷ ns) z = omega (arith, z.0, shares_alone ss ns z.1)

-- ---- the licence of one house

-- edges of all, and unused shares of the others: its own edges, and what the others keep
unused_is : (ss ns : List ℕ) (h : ℕ) → length ss ≡ length ns → h < length ss
    → sum ns + sum (set (unused ss ns) h 0) ≡ get_or ns h 0 + sum (set (reserves ss ns) h 0)
unfolding unused reserves sum
unused_is [] ns h e l = absurd (omega arith)
unused_is (s ∷ ss) [] h e l = absurd (omega arith)
unused_is (s ∷ ss) (n ∷ ns) zero e l = omega (arith, all ss ns (omega arith))
  where
    all : (xs ys : List ℕ) → length xs ≡ length ys → sum ys + sum (unused xs ys) ≡ sum (reserves xs ys)
    all [] [] e = refl
    all [] (y ∷ ys) e = absurd (omega arith)
    all (x ∷ xs) [] e = absurd (omega arith)
    all (x ∷ xs) (y ∷ ys) e = omega (arith, all xs ys (omega arith))
unused_is (s ∷ ss) (n ∷ ns) (suc h) e l = omega (arith, unused_is ss ns h (omega arith) (omega arith))

module _ (h : ℕ) (ss ns : List ℕ) (e : length ss ≡ length ns) (l : h < length ss) where
  abbrev others : ℕ
  others = sum (set (reserves ss ns) h 0)

  -- the sum is what the house keeps and what the others keep
  pub whole : sum (reserves ss ns) ≡ max (get_or ss h 0) (get_or ns h 0) + others
  whole = rw (← reserve_at ss ns h e l) (sum_but (reserves ss ns) h (omega (arith, reserves_long ss ns e)))

  -- so it is with any other number of edges in the house
  pub put : (n : ℕ) → sum (reserves ss (set ns h n)) ≡ max (get_or ss h 0) n + others
  put n = rw (reserves_set ss ns h n e l) (sum_put (reserves ss ns) h (max (get_or ss h 0) n) (omega (arith, reserves_long ss ns e)))

  -- the limit does not hang on the house's own edges
  pub limit_own : (n : ℕ) → limit_of h ss (set ns h n) ≡ limit_of h ss ns
  unfolding limit_of
  limit_own n = rw (reserves_set ss ns h n e l, set-set (reserves ss ns) h (max (get_or ss h 0) n) 0)

  -- where 21 does not hold, it says what document 02 says
  pub limit_is : overfull ss ns ≡ false → may_land h ss ns ≡ ltb (get_or ns h 0) (limit_of h ss ns)
  unfolding overfull may_land limit_of
  limit_is o = go (ltb n s) refl (ltb both licence) refl
    where
      n : ℕ
      n = get_or ns h 0

      s : ℕ
      s = get_or ss h 0

      both : ℕ
      both = sum ns + sum (set (unused ss ns) h 0)

      room : max s n + others ≤ licence
      room = omega (arith, whole, ltb-false licence (sum (reserves ss ns)) o)

      go : (b : Bool) → ltb n s ≡ b → (c : Bool) → ltb both licence ≡ c → (ltb n s || ltb both licence) ≡ ltb n (licence - others)
      go true q c r = rw q (sym (lt-ltb n (licence - others) (omega (arith, room, ltb-true n s q))))
      go false q true r = rw (q, r) (sym (lt-ltb n (licence - others) (omega (arith, room, unused_is ss ns h e l, ltb-true both licence r))))
      go false q false r = rw (q, r) (sym (le-ltb n (licence - others) (omega (arith, unused_is ss ns h e l, ltb-false both licence r))))

  -- the share is within the limit, counted with the house as empty, and the limit within 4,096
  pub share_within : sum (reserves ss (set ns h 0)) ≤ licence → get_or ss h 0 ≤ limit_of h ss ns
  unfolding limit_of
  share_within w = omega (arith, put 0, w)

  pub limit_most : limit_of h ss ns ≤ licence
  unfolding limit_of
  limit_most = omega arith

  -- so many edges in the house as the limit says keep the sum within 4,096
  pub within_limit : (n : ℕ) → sum (reserves ss (set ns h 0)) ≤ licence → n ≤ limit_of h ss ns → sum (reserves ss (set ns h n)) ≤ licence
  unfolding limit_of
  within_limit n w b = omega (arith, put 0, put n, w, b)

  -- the sum falls if the house is empty
  pub without_own : sum (reserves ss (set ns h 0)) ≤ sum (reserves ss ns)
  without_own = omega (arith, put 0, whole)

  -- what the house has is within its limit
  pub own_within : sum (reserves ss ns) ≤ licence → get_or ns h 0 ≤ limit_of h ss ns
  unfolding limit_of
  own_within w = omega (arith, whole, w)
