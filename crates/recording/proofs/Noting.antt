-- The sides that recording leaves: a leaf's edge on its low side, the two edges of a regular vertex in the order of landing. They turn at
-- regular vertices as the edges do; what stands at other vertices is never asked.
use mathlib.Core.Path.{◌≡◌, sym, ◌∙◌}
use mathlib.Core.Logic.{◌≢◌}
use Prim.Native.Nat.{ℕ, ◌+◌, ◌*◌, ◌≤◌, ◌<◌}
use native.Mathlib.Omega.{arith}
use native.Mathlib.Nat.{add-zero}
use native.Mathlib.Decide.{ℕ_discrete}
use mathlib.Core.List.{List, [], ◌∷◌, ◌++◌}
use lib.ListN.{length, get_or, length-set}
use lib.Seq.{get_or-set_other, get_or-set_same}
use borrow.Author.Tests.{eq-eqb, ne_eqb}
use Rattle.model.specs.Basics.{max_vertices}
use Rattle.model.specs.Graph.{Edge, degree, ends_at, only_edge, turn}
use Rattle.tables.specs.Steps.{turn_in}
use Rattle.model.proofs.Walks.Degree.{Proper, degree_snoc, end_first, end_second, proper_snoc}
use Rattle.model.proofs.Walks.Turn.{At, Between, only_edge_is}
use Rattle.model.proofs.Walks.Snoc.{turn_old}
use Rattle.model.proofs.Walks.NewEdge.{at_last, at_new}
use Rattle.agreement.proofs.Lists.{PairAt}
use Rattle.agreement.proofs.Linked.{degree_old, off_ends, only_edge_old, turn_by}
use Rattle.agreement.proofs.Extending.{leaf_between}
use Rattle.recording.specs.Unlabelled.{note_both_in, note_in, place_for}

-- the two edges of a regular vertex are its sides
pub record Two (es : List Edge) (sides : List ℕ) (v : ℕ) : Type 0 where
  pub low : ℕ
  pub low_at_lem : At es v low
  pub are : PairAt sides v low (turn es low v)

-- what the sides say of vertex v
pub record Noted (es : List Edge) (sides : List ℕ) (v : ℕ) : Type 0 where
  pub leaf : degree es v ≡ 1 → get_or sides (2 * v) 0 ≡ only_edge es v
  pub regular : degree es v ≡ 2 → Two es sides v

-- they turn at it as the edges do
pub noted_turns : (es : List Edge) (sides : List ℕ) (v d : ℕ) → Proper es → Noted es sides v → degree es v ≡ 2 → At es v d → turn_in sides d v ≡ turn es d v
noted_turns es sides v d pr k two a = let w = k.regular two in turn_by es sides v w.low d pr two w.low_at_lem w.are a

-- ---- one edge comes to one vertex

place_most : (d : ℕ) → place_for d ≤ 1
unfolding place_for
place_most d = go (ℕ_discrete d 0)
  where
    go : Dec (d ≡ 0) → place_for d ≤ 1
    go (yes z) = rw (eq-eqb d 0 z) (omega arith)
    go (no n) = rw (ne_eqb d 0 n) (omega arith)

module _ (degrees sides : List ℕ) (x e : ℕ) where
  note_other : (v : ℕ) → v ≢ x → PairAt (note_in degrees sides x e) v (get_or sides (2 * v) 0) (get_or sides (2 * v + 1) 0)
  unfolding note_in
  note_other v n =
      let p : ℕ = place_for (get_or degrees x 0) in
      let m : p ≤ 1 = place_most (get_or degrees x 0) in (
        get_or-set_other sides (2 * x + p) (2 * v) e 0 (λ q. n (omega arith)),
        get_or-set_other sides (2 * x + p) (2 * v + 1) e 0 (λ q. n (omega arith)),
      )

  -- the first edge
  note_low : get_or degrees x 0 ≡ 0 → 2 * x + 1 < length sides → get_or (note_in degrees sides x e) (2 * x) 0 ≡ e
  unfolding note_in place_for
  note_low z l = rw (eq-eqb (get_or degrees x 0) 0 z, add-zero) (get_or-set_same sides (2 * x) e 0 (omega arith))

  -- a later one
  note_high : get_or degrees x 0 ≢ 0 → 2 * x + 1 < length sides → PairAt (note_in degrees sides x e) x (get_or sides (2 * x) 0) e
  unfolding note_in place_for
  note_high n l =
      rw (ne_eqb (get_or degrees x 0) 0 n) (get_or-set_other sides (2 * x + 1) (2 * x) e 0 (λ q. omega arith), get_or-set_same sides (2 * x + 1) e 0 l)

  note_long : length (note_in degrees sides x e) ≡ length sides
  unfolding note_in
  note_long = length-set sides _ e

  -- nothing changes at another vertex
  noted_other : (es : List Edge) (v : ℕ) → v ≢ x → Noted es sides v → Noted es (note_in degrees sides x e) v
  noted_other es v n k =
      let p = note_other v n in
      record {
        leaf = λ one. p.0 ∙ k.leaf one;
        regular = λ two. let w = k.regular two in record { low = w.low; low_at_lem = w.low_at_lem; are = (p.0 ∙ w.are.0, p.1 ∙ w.are.1) };
      }

module _ (es : List Edge) (n : Edge) (pr : Proper es) (df : n.first ≢ n.second) where
  -- nor at one that the edge does not meet
  noted_old : (sides : List ℕ) (v : ℕ) → ends_at v n ≡ 0 → Noted es sides v → Noted (es ++ (n ∷ [])) sides v
  noted_old sides v z k =
      let same = degree_old es n pr v z in
      record {
        leaf = λ one. k.leaf (sym same ∙ one) ∙ sym (only_edge_old es n pr v z);
        regular = λ two.
            let w = k.regular (sym same ∙ two) in
            record { low = w.low; low_at_lem = at_new es n w.low_at_lem; are = (w.are.0, w.are.1 ∙ sym (turn_old es n v w.low pr z)) };
      }

  -- the edge is noted at a vertex that it meets
  noted_here : (degrees sides : List ℕ) (x : ℕ) → ends_at x n ≡ 1 → get_or degrees x 0 ≡ degree es x → 2 * x + 1 < length sides → Noted es sides x
      → Noted (es ++ (n ∷ [])) (note_in degrees sides x (length es)) x
  noted_here degrees sides x o d l k = go (ℕ_discrete (degree es x) 0) (ℕ_discrete (degree es x) 1)
    where
      new : List Edge
      new = es ++ (n ∷ [])

      more : degree new x ≡ degree es x + 1
      more = omega (arith, degree_snoc es n x)

      go : Dec (degree es x ≡ 0) → Dec (degree es x ≡ 1) → Noted new (note_in degrees sides x (length es)) x
      go (yes z) f =
          record {
            leaf = λ one. note_low degrees sides x (length es) (d ∙ z) l ∙ sym (only_edge_is new x (length es) (proper_snoc es n pr df) one (at_last es n o));
            regular = λ two. absurd (omega (arith, more));
          }
      go (no z) (yes f) =
          let p = note_high degrees sides x (length es) (λ e. z (sym d ∙ e)) l in
          let b : Between new x (only_edge es x) (length es) = leaf_between es n pr df x f o in
          record {
            leaf = λ one. absurd (omega (arith, more));
            regular = λ two. record { low = only_edge es x; low_at_lem = b.before_at; are = (p.0 ∙ k.leaf f, p.1 ∙ sym b.forth) };
          }
      go (no z) (no f) =
          record {
            leaf = λ one. absurd (z (omega (arith, more)));
            regular = λ two. absurd (f (omega (arith, more)));
          }

-- ---- it comes to both of its ends

module _ (es : List Edge) (n : Edge) (pr : Proper es) (df : n.first ≢ n.second) (degrees sides : List ℕ) (la : n.first < max_vertices) (lb : n.second < max_vertices)
    (ds : (v : ℕ) → v < max_vertices → get_or degrees v 0 ≡ degree es v) (long : length sides ≡ 2 * max_vertices) where
  abbrev after : List ℕ
  after = note_both_in degrees sides n.first n.second (length es)

  -- the table keeps its length
  pub both_long : length after ≡ 2 * max_vertices
  unfolding note_both_in
  both_long = note_long degrees (note_in degrees sides n.first (length es)) n.second (length es) ∙ note_long degrees sides n.first (length es) ∙ long

  -- and says of every vertex what it has to
  pub both_noted : ((v : ℕ) → v < max_vertices → Noted es sides v) → (v : ℕ) → v < max_vertices → Noted (es ++ (n ∷ [])) after v
  unfolding note_both_in
  both_noted k v l = go (ℕ_discrete v n.first) (ℕ_discrete v n.second)
    where
      a : ℕ
      a = n.first

      b : ℕ
      b = n.second

      e : ℕ
      e = length es

      once : List ℕ
      once = note_in degrees sides a e

      new : List Edge
      new = es ++ (n ∷ [])

      ba : b ≢ a
      ba q = df (sym q)

      oa : ends_at a n ≡ 1
      oa = end_first n df

      ob : ends_at b n ≡ 1
      ob = end_second n df

      go : Dec (v ≡ a) → Dec (v ≡ b) → Noted new (note_in degrees once b e) v
      go (yes q) f = rw q (noted_other degrees once b e new a df (noted_here es n pr df degrees sides a oa (ds a la) (omega (arith, long)) (k a la)))
      go (no q) (yes f) =
          rw f (noted_here es n pr df degrees once b ob (ds b lb) (omega (arith, long, note_long degrees sides a e)) (noted_other degrees sides a e es b ba (k b lb)))
      go (no q) (no f) =
          noted_other degrees once b e new v f
          (noted_other degrees sides a e new v q (noted_old es n pr df sides v (off_ends n a b v df oa ob df q f) (k v l)))
