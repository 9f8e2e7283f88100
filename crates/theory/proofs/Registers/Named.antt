-- Document 02, S-6: the counts of an opened sheet name a register in each register of which 33 does not hold, and landing more leaves it.
use mathlib.Core.Path.{◌≡◌, refl, sym, ap, ◌∙◌, subst}
use Prim.Native.Nat.{ℕ, zero, suc, ◌+◌, ◌≤◌}
use native.Mathlib.Omega.{arith}
use native.Mathlib.Nat.{not-suc-le-zero}
use mathlib.Core.Bool.{Bool, true, false, not, ◌&&◌, ◌||◌}
use mathlib.Core.List.{List, [], ◌∷◌, ◌++◌, append-nil, append_assoc}
use mathlib.Core.Option.{some}
use lib.ListN.{length, take, length-append, length-take}
use lib.Seq.{length-take-le, get_or-take, take-append-le, take-length}
use lib.Dec.{ltb}
use borrow.Author.Tests.{ltb-true, ltb-false, lt-ltb, le-ltb, not-false}
use Rattle.model.specs.Basics.{max_edges, up_to}
use Rattle.model.specs.Graph.{Edge, edge_at, no_edge}
use Rattle.model.specs.Register.{Landed, Register, edge_refusal, land_edge, landed, refused, with_edge}
use Rattle.model.specs.Queries.{OpenSheet, rows_of, sheet}
use Rattle.model.specs.Opened.{any_beyond, is_beyond, opened_edges, opened_lines, opening_of}
use Rattle.model.specs.Tables.{grow_from, land_edges}
use Rattle.model.specs.Notions.{LandedSince, Lawful, NamedIn, Reachable}
use Rattle.model.proofs.Basics.Booleans.{and_true, or_false}
use Rattle.model.proofs.Walks.Degree.{AllLawful}
use Rattle.model.proofs.Basics.Lists.{length_up_to}
use Rattle.model.proofs.Registers.Accepted.{edge_lands}
use Rattle.model.proofs.Registers.Fetched.{rows_few}
use Rattle.model.proofs.Registers.Quotes.{land_edge_by, unless_refused}
use Rattle.theory.proofs.Registers.Held.{edges_cons, edges_stop, grown_from, on_vertices, vertices_grow}
use Rattle.theory.proofs.Registers.Founded.{Founded}
use Rattle.theory.proofs.Registers.OnlyHeld.{grow_reaches}
use Rattle.theory.proofs.Registers.Reachable.{founded, with_edge_vertices}

-- ---- the third part of 33

-- an edge among n vertices
abbrev Among : ℕ → Edge → Bool
Among n e = ltb e.first n && ltb e.second n

-- one that is lawful but for its ends, and these are among them
among_lawful : (m n : ℕ) (e : Edge) → Lawful m e → Among n e ≡ true → Lawful n e
among_lawful m n e l h =
    let p = and_true (ltb e.first n) (ltb e.second n) h in
    record {
      first_landed = ltb-true _ _ p.0;
      second_landed = ltb-true _ _ p.1;
      differ = l.differ;
      some_length = l.some_length;
      most_length = l.most_length;
      most_volume = l.most_volume;
    }

first_of : (m : ℕ) (e : Edge) (es : List Edge) → AllLawful m (e ∷ es) → Lawful m e
unfolding edge_at
first_of m e es f = f 0 (omega arith)

rest_of : (m : ℕ) (e : Edge) (es : List Edge) → AllLawful m (e ∷ es) → AllLawful m es
unfolding edge_at
rest_of m e es f d l = f (suc d) (omega arith)

lawful_not_beyond : (n : ℕ) (es : List Edge) → AllLawful n es → any_beyond n es ≡ false
unfolding any_beyond
lawful_not_beyond n [] f = refl
lawful_not_beyond n (e ∷ es) f =
    let l = first_of n e es f in
    rw (lt-ltb e.first n l.first_landed, lt-ltb e.second n l.second_landed) (lawful_not_beyond n es (rest_of n e es f))

among_all : (m n : ℕ) (es : List Edge) → AllLawful m es → any_beyond n es ≡ false → AllLawful n es
unfolding any_beyond edge_at
among_all m n [] f b d l = absurd (not-suc-le-zero l)
among_all m n (e ∷ es) f b zero l = among_lawful m n e (first_of m e es f) (not-false _ (or_false (not (Among n e)) (any_beyond n es) b).0)
among_all m n (e ∷ es) f b (suc d) l = among_all m n es (rest_of m e es f) (or_false (not (Among n e)) (any_beyond n es) b).1 d (omega arith)

-- ---- edges that are lawful land, one after the other

-- what they leave
record Left (es : List Edge) (r : Register) : Type 0 where
  register : Register
  lands : land_edges es r ≡ landed register
  vertices_are : register.vertices ≡ r.vertices
  edges_are : register.edges ≡ r.edges ++ es

with_edges : (r : Register) (e : Edge) → (with_edge r e).edges ≡ r.edges ++ (e ∷ [])
unfolding with_edge
with_edges r e = refl

left_on : (e : Edge) (es : List Edge) (r : Register) → land_edge r e ≡ landed (with_edge r e) → Left es (with_edge r e) → Left (e ∷ es) r
left_on e es r h l =
    record {
      register = l.register;
      lands = edges_cons e es r (with_edge r e) h ∙ l.lands;
      vertices_are = l.vertices_are ∙ with_edge_vertices r e;
      edges_are = l.edges_are ∙ ap (λ (ds : List Edge). ds ++ es) (with_edges r e) ∙ append_assoc r.edges (e ∷ []) es;
    }

-- one edge more, and there is room for the others
more_room : (r : Register) (e : Edge) (es : List Edge) → length r.edges + length (e ∷ es) ≤ max_edges → length (with_edge r e).edges + length es ≤ max_edges
more_room r e es h = omega (arith, ap length (with_edges r e), length-append r.edges (e ∷ []))

all_land : (es : List Edge) (r : Register) → AllLawful r.vertices es → length r.edges + length es ≤ max_edges → Left es r
unfolding land_edges
all_land [] r f h = record { register = r; lands = refl; vertices_are = refl; edges_are = sym (append-nil r.edges) }
all_land (e ∷ es) r f h =
    left_on e es r (edge_lands r e (record { lawful = first_of r.vertices e es f; room = omega arith }))
    (all_land es (with_edge r e) (subst (λ (n : ℕ). AllLawful n es) (sym (with_edge_vertices r e)) (rest_of r.vertices e es f)) (more_room r e es h))

-- ---- and where one names a vertex beyond, none of the others holds it back from refusal 5

five : (r : Register) (e : Edge) → Among r.vertices e ≡ false → edge_refusal max_edges r e ≡ some 5
unfolding edge_refusal
five r e h = rw h

not_among : (r : Register) (e : Edge) → Among r.vertices e ≡ false → land_edge r e ≡ refused 5
unfolding land_edge
not_among r e h = land_edge_by max_edges r e ∙ ap (unless_refused r e) (five r e h)

beyond_stops : (m : ℕ) (es : List Edge) (r : Register) → AllLawful m es → length r.edges + length es ≤ max_edges → any_beyond r.vertices es ≡ true
    → land_edges es r ≡ refused 5
unfolding any_beyond
beyond_stops m [] r f h b = absurd (let z : ◌≡◌ {A = ℕ} 0 1 = cc in omega arith)
beyond_stops m (e ∷ es) r f h b = go (Among r.vertices e) refl (λ k. beyond_stops m es (with_edge r e) (rest_of m e es f) (more_room r e es h) k)
  where
    go : (t : Bool) → Among r.vertices e ≡ t → (any_beyond (with_edge r e).vertices es ≡ true → land_edges es (with_edge r e) ≡ refused 5)
        → land_edges (e ∷ es) r ≡ refused 5
    go false q ih = edges_stop e es r 5 (not_among r e q)
    go true q ih =
        let lands = edge_lands r e (record { lawful = among_lawful m r.vertices e (first_of m e es f) q; room = omega arith }) in
        edges_cons e es r (with_edge r e) lands ∙ ih (ap (λ (n : ℕ). any_beyond n es) (with_edge_vertices r e) ∙ rw q at b)

-- ---- the register that the counts name

-- what is known where 33 does not hold
record Within (r : Register) (s : OpenSheet) : Type 0 where
  vertices : s.vertices ≤ r.vertices
  edges : s.edges ≤ length r.edges
  among : any_beyond s.vertices (opened_edges r s) ≡ false

within : (r : Register) (s : OpenSheet) → is_beyond r s ≡ false → Within r s
unfolding is_beyond
within r s h =
    let p = or_false (ltb r.vertices s.vertices || ltb (length r.edges) s.edges) _ h in
    let q = or_false (ltb r.vertices s.vertices) _ p.0 in
    record { vertices = ltb-false _ _ q.0; edges = ltb-false _ _ q.1; among = p.1 }

not_beyond : (r : Register) (s : OpenSheet) → Within r s → is_beyond r s ≡ false
unfolding is_beyond
not_beyond r s w = rw (le-ltb r.vertices s.vertices w.vertices, le-ltb (length r.edges) s.edges w.edges) w.among

module _ (r : Register) (k : Reachable r) (s : OpenSheet) where
  abbrev es : List Edge
  es = opened_edges r s

  f : Founded r
  f = founded r k

  -- the first edges are as lawful as all
  first_lawful : s.edges ≤ length r.edges → AllLawful r.vertices es
  unfolding opened_edges edge_at
  first_lawful h d l =
      let n : length (take s.edges r.edges) ≡ s.edges = length-take-le s.edges r.edges h in
      subst (λ (e : Edge). Lawful r.vertices e) (sym (get_or-take s.edges r.edges d no_edge (omega arith))) (f.lawful d (omega arith))

  counted : s.edges ≤ length r.edges → length es ≡ s.edges
  unfolding opened_edges
  counted h = length-take-le s.edges r.edges h

  -- what lands them
  grows_to : s.vertices ≤ r.vertices → (l : Landed) → land_edges es (on_vertices s.vertices) ≡ l → grow_from s.vertices es ≡ l
  grows_to h l q = grown_from s.vertices es (on_vertices s.vertices) l (vertices_grow s.vertices (omega (arith, f.few))) q

  room : s.edges ≤ length r.edges → length (on_vertices s.vertices).edges + length es ≤ max_edges
  unfolding on_vertices
  room h = omega (arith, counted h, f.room)

  -- where 33 does not hold, the counts name a register
  pub named : is_beyond r s ≡ false → NamedIn r s
  unfolding opened_edges opened_lines sheet on_vertices
  named h =
      record {
        register = l.register;
        grown = grown;
        reachable = grow_reaches s.vertices es l.register grown;
        vertices_are = l.vertices_are;
        edges_are = l.edges_are;
        edges_counted = ap length l.edges_are ∙ counted w.edges;
        lines_are = ap (λ (ds : List Edge). rows_of ds (up_to (length ds))) (sym l.edges_are);
      }
    where
      w : Within r s
      w = within r s h

      all : AllLawful s.vertices es
      all = among_all r.vertices s.vertices es (first_lawful w.edges) w.among

      l : Left es (on_vertices s.vertices)
      l = all_land es (on_vertices s.vertices) all (room w.edges)

      grown : grow_from s.vertices es ≡ landed l.register
      grown = grows_to w.vertices (landed l.register) l.lands

  -- 33's third part holds exactly if growing what the counts name is refused
  pub beyond_refused : s.vertices ≤ r.vertices → s.edges ≤ length r.edges → any_beyond s.vertices es ≡ true → grow_from s.vertices es ≡ refused 5
  unfolding on_vertices
  beyond_refused v e b =
      grows_to v (refused 5) (beyond_stops r.vertices es (on_vertices s.vertices) (first_lawful e) (room e) b)

-- ---- landing more leaves it

module _ (r r' : Register) (l : LandedSince r r') (s : OpenSheet) (h : is_beyond r s ≡ false) where
  pub edges_stay : opened_edges r' s ≡ opened_edges r s
  unfolding opened_edges
  edges_stay = ap (λ (es : List Edge). take s.edges es) l.edges_are ∙ take-append-le s.edges r.edges l.later (within r s h).edges

  -- with more landed 33 does not hold either, and the lines stay
  pub still_within : is_beyond r' s ≡ false
  still_within =
      let w = within r s h in
      not_beyond r' s (record {
        vertices = omega (arith, w.vertices, l.vertices_stay);
        edges = omega (arith, w.edges, ap length l.edges_are, length-append r.edges l.later);
        among = ap (any_beyond s.vertices) edges_stay ∙ w.among;
      })

  pub lines_stay : opened_lines r' s ≡ opened_lines r s
  unfolding opened_lines
  lines_stay = ap (λ (es : List Edge). rows_of es (up_to (length es))) edges_stay

-- ---- a sheet that was opened just now

all_edges : (removals : ℕ) (r : Register) → opened_edges r (opening_of removals r) ≡ r.edges
unfolding opened_edges opening_of
all_edges removals r = take-length r.edges

-- 33 does not hold of a sheet opened just now, and its lines are those of the register
pub opened_within : (removals : ℕ) (r : Register) → Reachable r → is_beyond r (opening_of removals r) ≡ false
unfolding opening_of
opened_within removals r k =
    not_beyond r (opening_of removals r) (record {
      vertices = omega arith;
      edges = omega arith;
      among = ap (any_beyond r.vertices) (all_edges removals r) ∙ lawful_not_beyond r.vertices r.edges (founded r k).lawful;
    })

pub opened_sheet : (removals : ℕ) (r : Register) → opened_lines r (opening_of removals r) ≡ sheet r
unfolding opened_lines sheet
opened_sheet removals r = ap (λ (es : List Edge). rows_of es (up_to (length es))) (all_edges removals r)

-- ---- their number

-- an opened sheet has at most 4,096 lines
pub lines_few : (r : Register) → Reachable r → (s : OpenSheet) → length (opened_lines r s) ≤ max_edges
unfolding opened_lines opened_edges
lines_few r k s =
    let es = opened_edges r s in
    omega (arith, rows_few es (up_to (length es)), length_up_to (length es), length-take s.edges r.edges, (founded r k).room)
