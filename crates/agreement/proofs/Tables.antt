-- What the tables of a register show, and which tables are those of a register.
use mathlib.Core.Path.{◌≡◌, refl, sym, ◌∙◌}
use mathlib.Core.Logic.{◌≢◌}
use Prim.Native.Nat.{ℕ, ◌+◌, ◌*◌, ◌≤◌, ◌<◌, min}
use native.Mathlib.Omega.{arith}
use native.Mathlib.Decide.{ℕ_discrete}
use mathlib.Core.List.{List, [], ◌∷◌, ◌++◌}
use lib.ListN.{length, get_or, length-set}
use lib.Seq.{get_or-set_other, get_or-set_same}
use borrow.Author.Tests.{eq-eqb, ne_eqb}
use Rattle.model.specs.Basics.{max_edges, max_vertices, up_to}
use Rattle.model.specs.Graph.{Edge, degree, ends_at, far, is_leaf, is_regular, only_edge, same, turn}
use Rattle.model.specs.Register.{Register, low_edge_of}
use Rattle.model.specs.Tables.{high_side, low_side, tables_of}
use Rattle.model.specs.Notions.{Reachable}
use Rattle.tables.specs.Steps.{far_in, more16, most16, raise_both_in, raise_in}
use Rattle.model.proofs.Walks.Degree.{Proper, degree_snoc, ends_at_le}
use Rattle.agreement.proofs.Lists.{PairAt, by_pairs, get_d_up_to, is_map, length_mapped, sides_of_read}
use Rattle.agreement.proofs.Linked.{Linked, far_agrees}
use Rattle.agreement.proofs.Lockstep.{Shows}
use Rattle.agreement.proofs.Registers.{landed_below, low_at_lem}
use Rattle.model.proofs.Basics.Counting.{same_eq, same_most, same_ne}
use Rattle.model.proofs.Basics.Lists.{length_up_to}
use Rattle.model.proofs.Registers.ReadBack.{first_read, length_sides, second_read}

-- ---- the two sides of a vertex, by its degree

abbrev SidesAre : Register → ℕ → ℕ → ℕ → Type 0
SidesAre r v low high = (low_side r v ≡ low) × (high_side r v ≡ high)

module _ (r : Register) (v : ℕ) where
  sides_regular : degree r.edges v ≡ 2 → SidesAre r v (low_edge_of r v) (turn r.edges (low_edge_of r v) v)
  unfolding low_side high_side is_leaf is_regular
  sides_regular h = (rw h, rw h)

  sides_leaf : degree r.edges v ≡ 1 → SidesAre r v (only_edge r.edges v) 0
  unfolding low_side high_side is_leaf is_regular
  sides_leaf h = (rw (eq-eqb (degree r.edges v) 1 h), rw (ne_eqb (degree r.edges v) 2 (λ e. omega arith)))

  sides_other : degree r.edges v ≢ 1 → degree r.edges v ≢ 2 → SidesAre r v 0 0
  unfolding low_side high_side is_leaf is_regular
  sides_other a b = (rw (ne_eqb _ _ a, ne_eqb _ _ b), rw (ne_eqb _ _ b))

-- ---- the table of sides

sides_read : (r : Register) (v : ℕ) → v < max_vertices → PairAt (tables_of r).sides v (low_side r v) (high_side r v)
unfolding tables_of
sides_read r v h = sides_of_read r max_vertices v h

-- the table of sides has two places for each vertex
pub sides_long : (r : Register) → length (tables_of r).sides ≡ 2 * max_vertices
unfolding tables_of
sides_long r = omega (arith, length_sides r (up_to max_vertices), length_up_to max_vertices)

-- it is linked
pub sides_linked : (r : Register) → Reachable r → (v : ℕ) → v < max_vertices → Linked r.edges (tables_of r).sides r.lows v
sides_linked r g v h =
    let p = sides_read r v h in
    record {
      low_at_lem = low_at_lem r g v;
      regular = λ d. let q = sides_regular r v d in (p.0 ∙ q.0, p.1 ∙ q.1);
      leaf = λ d. let q = sides_leaf r v d in (p.0 ∙ q.0, p.1 ∙ q.1);
      other = λ a b. let q = sides_other r v a b in (p.0 ∙ q.0, p.1 ∙ q.1);
    }

-- and a linked table of that size is it
pub linked_sides : (r : Register) (sides : List ℕ) → length sides ≡ 2 * max_vertices → ((v : ℕ) → v < max_vertices → Linked r.edges sides r.lows v)
    → sides ≡ (tables_of r).sides
linked_sides r sides l k =
    by_pairs max_vertices sides (tables_of r).sides l (sides_long r)
    (λ v h. let p = sides_read r v h in let q = are v (k v h) in (q.0 ∙ sym p.0, q.1 ∙ sym p.1))
  where
    are : (v : ℕ) → Linked r.edges sides r.lows v → PairAt sides v (low_side r v) (high_side r v)
    are v k = go (ℕ_discrete (degree r.edges v) 1) (ℕ_discrete (degree r.edges v) 2)
      where
        go : Dec (degree r.edges v ≡ 1) → Dec (degree r.edges v ≡ 2) → PairAt sides v (low_side r v) (high_side r v)
        go (yes d) e = let p = k.leaf d in let q = sides_leaf r v d in (p.0 ∙ sym q.0, p.1 ∙ sym q.1)
        go (no d) (yes e) = let p = k.regular e in let q = sides_regular r v e in (p.0 ∙ sym q.0, p.1 ∙ sym q.1)
        go (no d) (no e) = let p = k.other d e in let q = sides_other r v d e in (p.0 ∙ sym q.0, p.1 ∙ sym q.1)

-- ---- degrees

-- the table of degrees has the degree of each vertex, and no other of that size has
pub degrees_read : (r : Register) (v : ℕ) → v < max_vertices → get_or (tables_of r).degrees v 0 ≡ degree r.edges v
unfolding tables_of
degrees_read r v h = get_d_up_to (λ w. degree r.edges w) max_vertices v h

pub degrees_are : (r : Register) (degrees : List ℕ) → length degrees ≡ max_vertices → ((v : ℕ) → v < max_vertices → get_or degrees v 0 ≡ degree r.edges v)
    → degrees ≡ (tables_of r).degrees
unfolding tables_of
degrees_are r degrees l h = is_map (λ w. degree r.edges w) max_vertices degrees l h

-- the table of degrees has a place for each vertex
pub degrees_long : (r : Register) → length (tables_of r).degrees ≡ max_vertices
unfolding tables_of
degrees_long r = length_mapped (λ w. degree r.edges w) max_vertices

degree_most : (es : List Edge) (v : ℕ) → Proper es → degree es v ≤ length es
unfolding degree
degree_most [] v pr = omega arith
degree_most (e ∷ es) v pr = omega (arith, degree_most es v pr.1, ends_at_le v e pr.0)

length_raise : (degrees : List ℕ) (x : ℕ) → length (raise_in degrees x) ≡ length degrees
unfolding raise_in
length_raise degrees x = length-set degrees x _

raise_read : (degrees : List ℕ) (x v : ℕ) → x < length degrees → get_or degrees x 0 < most16 → get_or (raise_in degrees x) v 0 ≡ get_or degrees v 0 + same x v
unfolding raise_in more16
raise_read degrees x v l h = go (ℕ_discrete v x)
  where
    go : Dec (v ≡ x) → get_or (raise_in degrees x) v 0 ≡ get_or degrees v 0 + same x v
    go (yes e) = rw e (omega (arith, get_or-set_same degrees x (min (get_or degrees x 0 + 1) most16) 0 l, same_eq x x refl))
    go (no n) = omega (arith, get_or-set_other degrees x v (min (get_or degrees x 0 + 1) most16) 0 n, same_ne x v (λ e. n (sym e)))

-- degrees that are raised are as many
pub length_raised : (degrees : List ℕ) (a b : ℕ) → length (raise_both_in degrees a b) ≡ length degrees
unfolding raise_both_in
length_raised degrees a b = length_raise (raise_in degrees a) b ∙ length_raise degrees a

-- raised at its two ends, in either order, the degrees are those with the new edge
pub raised : (es : List Edge) (n : Edge) (degrees : List ℕ) (a b : ℕ) → Proper es → length es ≤ max_edges → length degrees ≡ max_vertices → a < max_vertices → b < max_vertices
    → ((v : ℕ) → same a v + same b v ≡ ends_at v n)
    → ((v : ℕ) → v < max_vertices → get_or degrees v 0 ≡ degree es v) → (v : ℕ) → v < max_vertices → get_or (raise_both_in degrees a b) v 0 ≡ degree (es ++ (n ∷ [])) v
unfolding raise_both_in
raised es n degrees a b pr room long la lb ends h v l =
    let da : get_or degrees a 0 < most16 = omega (arith, h a la, degree_most es a pr) in
    let one = raise_read degrees a b (omega arith) da in
    let db : get_or (raise_in degrees a) b 0 < most16 = omega (arith, one, same_most a b, h b lb, degree_most es b pr) in
    omega (
      arith,
      raise_read (raise_in degrees a) b v (omega (arith, length_raise degrees a)) db,
      raise_read degrees a v (omega arith) da,
      h v l,
      ends v,
      degree_snoc es n v,
    )

-- ---- ends

-- a far end by the table is the edge's
pub far_is : (r : Register) (d v : ℕ) → d < length r.edges → far_in (tables_of r).ends d v ≡ far r.edges d v
far_is r d v h = far_agrees r.edges (tables_of r).ends d v (first_read r d h, second_read r d h)

-- the tables of a register show its edges
pub shows : (r : Register) → Reachable r
    → Shows r.edges (tables_of r).degrees (tables_of r).sides (tables_of r).ends r.lows
shows r g = record { degrees_are = degrees_read r; fars_are = far_is r; links = sides_linked r g; below = landed_below r g }
