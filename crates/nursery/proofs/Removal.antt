-- Document 02, S-11: the remaining edges always land, what they leave, and the report.
use Rattle.std.specs.Prelude.{if◌then◌else◌}
use mathlib.Core.Path.{◌≡◌, refl, sym, ap, ◌∙◌, subst}
use mathlib.Core.Logic.{◌≢◌, ◌⊎◌, inl, inr}
use Prim.Native.Nat.{ℕ, zero, suc, ◌+◌, ◌*◌, ◌≤◌, ◌<◌}
use native.Mathlib.Omega.{arith}
use native.Mathlib.Nat.{not-suc-le-zero}
use mathlib.Core.Bool.{Bool, true, false}
use mathlib.Core.List.Memᴰ.{cases_cons as mem-cases}
use mathlib.Core.List.Memᴰ.{head as at_head}
use mathlib.Core.List.Memᴰ.{not-nil as mem-nil}
use mathlib.Core.List.Memᴰ.{tail as in_Tail}
use mathlib.Core.List.{List, [], ◌∷◌, ◌++◌, append-nil, append_assoc, map, Memᴰ as Mem}
use lib.ListN.{length, get_or, take, drop, length-append, length-drop}
use lib.Seq.{append_snoc, length-take-le}
use lib.Dec.{eqb, leb, ltb}
use borrow.Author.Tests.{leb-true, leb-false, ltb-true, ltb-false, eqb-false, ne_eqb}
use Rattle.model.specs.Basics.{max_edges}
use Rattle.model.specs.Graph.{Edge, edge_at}
use Rattle.model.specs.Register.{Landed, Register, empty, land_edge, land_vertex, landed, refused, with_edge}
use Rattle.model.specs.Tables.{grow_from, land_edges, land_vertices}
use Rattle.model.specs.Calls.{House}
use Rattle.model.specs.Series.{Landing, landing_of}
use Rattle.model.specs.Notions.{Lawful, Reachable, Rising}
use Rattle.model.proofs.Walks.Degree.{AllLawful}
use Rattle.model.proofs.Walks.NewEdge.{length_new}
use Rattle.model.proofs.Registers.Accepted.{edge_lands, landed_is}
use Rattle.model.proofs.Registers.Quotes.{not_refused}
use Rattle.theory.proofs.Registers.Founded.{Founded}
use Rattle.theory.proofs.Registers.Held.{edges_cons, edges_first, grown_from, on_vertices, vertices_grow}
use Rattle.theory.proofs.Registers.Reachable.{founded, with_edge_vertices}
use Rattle.theory.proofs.Series.Landings.{LeftBy, left_edge, left_empty, left_same, left_vertex}
use Rattle.nursery.specs.Removal.{Change, Removed, change_numbers, changes_from, kept_with, landed_anew, landings_of, max_removals, remove, removed, without}
use Rattle.nursery.specs.Notions.{Report, TakenOut}

-- ---- lawful edges, as many as there is room for, always land

abbrev Each : ℕ → List Edge → Type 0
Each n [] = Unit {0}
Each n (e ∷ es) = Lawful n e × Each n es

each_of : (n : ℕ) (es : List Edge) → AllLawful n es → Each n es
unfolding edge_at
each_of n [] f = tt
each_of n (e ∷ es) f = (f 0 (omega arith), each_of n es (λ d l. f (suc d) (omega arith)))

each_take : (n k : ℕ) (es : List Edge) → Each n es → Each n (take k es)
each_take n zero es a = tt
each_take n (suc k) [] a = tt
each_take n (suc k) (e ∷ es) a = (a.0, each_take n k es a.1)

each_drop : (n k : ℕ) (es : List Edge) → Each n es → Each n (drop k es)
each_drop n zero es a = a
each_drop n (suc k) [] a = tt
each_drop n (suc k) (e ∷ es) a = each_drop n k es a.1

each_append : (n : ℕ) (es fs : List Edge) → Each n es → Each n fs → Each n (es ++ fs)
each_append n [] fs a b = b
each_append n (e ∷ es) fs a b = (a.0, each_append n es fs a.1 b)

-- what they leave
record Left (es : List Edge) (r : Register) : Type 0 where
  register : Register
  lands : land_edges es r ≡ landed register
  vertices_are : register.vertices ≡ r.vertices
  edges_are : register.edges ≡ r.edges ++ es

with_edges : (r : Register) (e : Edge) → (with_edge r e).edges ≡ r.edges ++ (e ∷ [])
unfolding with_edge
with_edges r e = refl

all_land : (es : List Edge) (r : Register) → Each r.vertices es → length r.edges + length es ≤ max_edges → Left es r
unfolding land_edges
all_land [] r a l = record { register = r; lands = refl; vertices_are = refl; edges_are = sym (append-nil r.edges) }
all_land (e ∷ es) r a l =
    let s = with_edge r e in
    let ok : land_edge r e ≡ landed s = edge_lands r e (record { lawful = a.0; room = omega arith }) in
    let more : length s.edges ≡ length r.edges + 1 = ap length (with_edges r e) ∙ omega (arith, length_new r.edges e) in
    let rest = all_land es s (subst (λ (n : ℕ). Each n es) (sym (with_edge_vertices r e)) a.1) (omega (arith, more)) in
    record {
      register = rest.register;
      lands = edges_cons e es r s ok ∙ rest.lands;
      vertices_are = rest.vertices_are ∙ with_edge_vertices r e;
      edges_are = rest.edges_are ∙ ap (λ (ds : List Edge). ds ++ es) (with_edges r e) ∙ append_assoc r.edges (e ∷ []) es;
    }

length_without : (d : ℕ) (es : List Edge) → d < length es → length (without d es) + 1 ≡ length es
unfolding without
length_without d es l =
    omega (arith, length-append (take d es) (drop (suc d) es), length-drop (suc d) es, length-take-le d es (omega arith))

on_vertices_is : (n : ℕ) → ((on_vertices n).vertices ≡ n) × ((on_vertices n).edges ≡ [])
unfolding on_vertices
on_vertices_is n = (refl, refl)

-- the register that landing the remaining edges leaves
pub record Rest (r : Register) (d : ℕ) : Type 0 where
  pub register : Register
  pub grown : grow_from r.vertices (without d r.edges) ≡ landed register
  pub vertices_are : register.vertices ≡ r.vertices
  pub edges_are : register.edges ≡ without d r.edges

pub rest_lands : (r : Register) → Founded r → (d : ℕ) → d < length r.edges → Rest r d
unfolding without
rest_lands r f d l =
    let es = without d r.edges in
    let a = each_of r.vertices r.edges f.lawful in
    let each : Each r.vertices es =
    each_append r.vertices (take d r.edges) (drop (suc d) r.edges) (each_take r.vertices d r.edges a) (each_drop r.vertices (suc d) r.edges a) in
    let v = on_vertices_is r.vertices in
    let none : length (on_vertices r.vertices).edges ≡ 0 = ap length v.1 in
    let x = all_land es (on_vertices r.vertices) (subst (λ (n : ℕ). Each n es) (sym v.0) each) (omega (arith, none, length_without d r.edges l, f.room)) in
    record {
      register = x.register;
      grown = grown_from r.vertices es (on_vertices r.vertices) (landed x.register) (vertices_grow r.vertices f.few) x.lands;
      vertices_are = x.vertices_are ∙ v.0;
      edges_are = x.edges_are ∙ ap (λ (ds : List Edge). ds ++ es) v.1;
    }

-- ---- the edges landed anew leave it

landings_cons : (e : Edge) (es : List Edge) (r s : Register) → land_edge r e ≡ landed s → landings_of (e ∷ es) r ≡ landing_of r e s ∷ landings_of es s
unfolding landings_of
landings_cons e es r s h = rw (h, landings_of)

left_edges : (es : List Edge) (r r' : Register) (ls : List Landing) → LeftBy ls r → land_edges es r ≡ landed r' → LeftBy (ls ++ landings_of es r) r'
unfolding land_edges landings_of
left_edges [] r r' ls b h = subst (λ (s : Register). LeftBy (ls ++ []) s) (landed_is r r' h) (left_same b)
left_edges (e ∷ es) r r' ls b h =
    let f = edges_first e es r r' h in
    let s = f.between in
    let i = left_edges es s r' (ls ++ (landing_of r e s ∷ [])) (left_edge e b f.one) f.others in
    subst (λ (ks : List Landing). LeftBy ks r') (append_snoc ls (landing_of r e s) (landings_of es s) ∙ ap (λ (ks : List Landing). ls ++ ks) (sym (landings_cons e es r s f.one))) i

left_vertices : (n : ℕ) (r r' : Register) (ls : List Landing) → LeftBy ls r → land_vertices n r ≡ landed r' → LeftBy ls r'
unfolding land_vertices
left_vertices zero r r' ls b h = subst (λ (s : Register). LeftBy ls s) (landed_is r r' h) b
left_vertices (suc n) r r' ls b h = go (land_vertex r) refl (λ s c k. left_vertices n s r' ls c k)
  where
    go : (x : Landed) → land_vertex r ≡ x → ((s : Register) → LeftBy ls s → land_vertices n s ≡ landed r' → LeftBy ls r') → LeftBy ls r'
    go (landed s) q ih = ih s (left_vertex b q) (rw (q, land_vertices) at h)
    go (refused x) q ih = absurd (not_refused x r' (rw (q, land_vertices) at h))

left_anew : (n : ℕ) (es : List Edge) (r' : Register) → grow_from n es ≡ landed r' → LeftBy (landed_anew n es) r'
unfolding grow_from landed_anew
left_anew n es r' h = go (land_vertices n empty) refl
  where
    go : (x : Landed) → land_vertices n empty ≡ x → LeftBy (landed_anew n es) r'
    go (landed s) q = rw (q, landed_anew) (left_edges es s r' [] (left_vertices n empty s [] left_empty q) (rw (q, grow_from) at h))
    go (refused x) q = absurd (not_refused x r' (rw (q, grow_from) at h))

-- ---- the ways out of `remove`

-- a removal that is not refused
pub record RemovedOf (s : House) (d room : ℕ) (r : Register) (cs : List Change) : Type 0 where
  pub was_there : d < length s.register.edges
  pub room_to_count : s.removals < max_removals
  pub grown : grow_from s.register.vertices (without d s.register.edges) ≡ landed r
  pub changes : cs ≡ changes_from 0 s.register.labels r.labels
  pub room_to_tell : length (change_numbers cs) ≤ room

-- one that is: "38 no such pipe, or the count at its largest, .. then 9 for a short answer slice", where neither ground of 38 holds
pub data KeptFor (s : House) (d room x : ℕ) : Type 0 where
  no_such_edge : length s.register.edges ≤ d → x ≡ 38 → KeptFor s d room x
  no_more_removals : max_removals ≤ s.removals → x ≡ 38 → KeptFor s d room x
  no_room : d < length s.register.edges → s.removals < max_removals
      → (r : Register) → grow_from s.register.vertices (without d s.register.edges) ≡ landed r
      → room < length (change_numbers (changes_from 0 s.register.labels r.labels)) → x ≡ 9 → KeptFor s d room x

abbrev pub RemovalIs : House → ℕ → ℕ → Removed → Type 0
RemovalIs s d room (removed r cs) = RemovedOf s d room r cs
RemovalIs s d room (kept_with x) = KeptFor s d room x

pub removal_is : (s : House) → Founded s.register → (d room : ℕ) → RemovalIs s d room (remove s d room)
unfolding remove
removal_is s f d room = first (leb (length s.register.edges) d) refl (leb max_removals s.removals) refl
  where
    r : Register
    r = s.register

    grown : Landed
    grown = grow_from r.vertices (without d r.edges)

    last : (t : Register) → grow_from r.vertices (without d r.edges) ≡ landed t → d < length r.edges → s.removals < max_removals → (b : Bool)
        → ltb room (length (change_numbers (changes_from 0 r.labels t.labels))) ≡ b
        → RemovalIs s d room (if b then kept_with 9 else removed t (changes_from 0 r.labels t.labels))
    last t g l k true q = no_room l k t g (ltb-true room _ q) refl
    last t g l k false q = record { was_there = l; room_to_count = k; grown = g; changes = refl; room_to_tell = ltb-false room _ q }

    next : d < length r.edges → s.removals < max_removals → (x : Landed) → grow_from r.vertices (without d r.edges) ≡ x
        → RemovalIs s d room (elim (grow_from r.vertices (without d r.edges)) [
          | landed t ↦
              let cs = changes_from 0 r.labels t.labels in
              if ltb room (length (change_numbers cs)) then kept_with 9 else removed t cs
          | refused x ↦ kept_with 38
        ])
    next l k (landed t) g = rw g (last t g l k (ltb room (length (change_numbers (changes_from 0 r.labels t.labels)))) refl)
    next l k (refused x) g = let y = rest_lands r f d l in absurd (not_refused x y.register (sym g ∙ y.grown))

    first : (a : Bool) → leb (length r.edges) d ≡ a → (b : Bool) → leb max_removals s.removals ≡ b → RemovalIs s d room (remove s d room)
    first true q b k = rw q (no_such_edge (leb-true (length r.edges) d q) refl)
    first false q true k = rw (q, k) (no_more_removals (leb-true max_removals s.removals k) refl)
    first false q false k = rw (q, k) (next (leb-false (length r.edges) d q) (leb-false max_removals s.removals k) grown refl)

-- ---- the report

changes_same : (at x y : ℕ) (xs ys : List ℕ) → eqb x y ≡ true → changes_from at (x ∷ xs) (y ∷ ys) ≡ changes_from (suc at) xs ys
unfolding changes_from
changes_same at x y xs ys e = rw (e, changes_from)

changes_differ : (at x y : ℕ) (xs ys : List ℕ) → eqb x y ≡ false
    → changes_from at (x ∷ xs) (y ∷ ys) ≡ record { vertex = at; old = x; new = y } ∷ changes_from (suc at) xs ys
unfolding changes_from
changes_differ at x y xs ys e = rw (e, changes_from)

abbrev vertices : List Change → List ℕ
vertices cs = map (λ (c : Change). c.vertex) cs

changes_behind : (at : ℕ) (xs ys : List ℕ) (v : ℕ) → Mem v (vertices (changes_from at xs ys)) → at ≤ v
unfolding changes_from
changes_behind at [] ys v m = absurd (mem-nil m)
changes_behind at (x ∷ xs) [] v m = absurd (mem-nil m)
changes_behind at (x ∷ xs) (y ∷ ys) v m = go (eqb x y) refl (λ n. changes_behind (suc at) xs ys v n)
  where
    go : (b : Bool) → eqb x y ≡ b → (Mem v (vertices (changes_from (suc at) xs ys)) → suc at ≤ v) → at ≤ v
    go true e ih = omega (arith, ih (subst (λ (cs : List Change). Mem v (vertices cs)) (changes_same at x y xs ys e) m))
    go false e ih = one (mem-cases (subst (λ (cs : List Change). Mem v (vertices cs)) (changes_differ at x y xs ys e) m))
      where
        one : (v ≡ at) ⊎ Mem v (vertices (changes_from (suc at) xs ys)) → at ≤ v
        one (inl q) = omega arith
        one (inr n) = omega (arith, ih n)

changes_rise : (at : ℕ) (xs ys : List ℕ) → Rising (vertices (changes_from at xs ys))
unfolding changes_from
changes_rise at [] ys = tt
changes_rise at (x ∷ xs) [] = tt
changes_rise at (x ∷ xs) (y ∷ ys) = go (eqb x y) refl (changes_rise (suc at) xs ys)
  where
    go : (b : Bool) → eqb x y ≡ b → Rising (vertices (changes_from (suc at) xs ys)) → Rising (vertices (changes_from at (x ∷ xs) (y ∷ ys)))
    go true e i = subst (λ (cs : List Change). Rising (vertices cs)) (sym (changes_same at x y xs ys e)) i
    go false e i = subst (λ (cs : List Change). Rising (vertices cs)) (sym (changes_differ at x y xs ys e)) ((λ v m. changes_behind (suc at) xs ys v m), i)

record ChangeAt (at : ℕ) (xs ys : List ℕ) (c : Change) : Type 0 where
  place : ℕ
  vertex_is : c.vertex ≡ at + place
  inside : place < length xs
  old_is : c.old ≡ get_or xs place 0
  new_is : c.new ≡ get_or ys place 0
  differ : c.old ≢ c.new

changes_are : (at : ℕ) (xs ys : List ℕ) (c : Change) → Mem c (changes_from at xs ys) → ChangeAt at xs ys c
unfolding changes_from
changes_are at [] ys c m = absurd (mem-nil m)
changes_are at (x ∷ xs) [] c m = absurd (mem-nil m)
changes_are at (x ∷ xs) (y ∷ ys) c m = go (eqb x y) refl (λ n. changes_are (suc at) xs ys c n)
  where
    later : ChangeAt (suc at) xs ys c → ChangeAt at (x ∷ xs) (y ∷ ys) c
    later k = record { place = suc k.place; vertex_is = omega (arith, k.vertex_is); inside = omega (arith, k.inside); old_is = k.old_is; new_is = k.new_is; differ = k.differ }

    go : (b : Bool) → eqb x y ≡ b → (Mem c (changes_from (suc at) xs ys) → ChangeAt (suc at) xs ys c) → ChangeAt at (x ∷ xs) (y ∷ ys) c
    go true e ih = later (ih (subst (λ (cs : List Change). Mem c cs) (changes_same at x y xs ys e) m))
    go false e ih = one (mem-cases (subst (λ (cs : List Change). Mem c cs) (changes_differ at x y xs ys e) m))
      where
        one : (c ≡ record { vertex = at; old = x; new = y }) ⊎ Mem c (changes_from (suc at) xs ys) → ChangeAt at (x ∷ xs) (y ∷ ys) c
        one (inl q) =
            record {
              place = 0;
              vertex_is = ap (λ (k : Change). k.vertex) q ∙ omega arith;
              inside = omega arith;
              old_is = ap (λ (k : Change). k.old) q;
              new_is = ap (λ (k : Change). k.new) q;
              differ = λ z. eqb-false x y e (sym (ap (λ (k : Change). k.old) q) ∙ z ∙ ap (λ (k : Change). k.new) q);
            }
        one (inr n) = later (ih n)

changes_all : (at : ℕ) (xs ys : List ℕ) (v : ℕ) → length xs ≡ length ys → v < length xs → get_or xs v 0 ≢ get_or ys v 0 → Mem (at + v) (vertices (changes_from at xs ys))
unfolding changes_from
changes_all at [] ys v e l d = absurd (not-suc-le-zero l)
changes_all at (x ∷ xs) [] v e l d = absurd (omega arith)
changes_all at (x ∷ xs) (y ∷ ys) zero e l d =
    let q : eqb x y ≡ false = ne_eqb x y d in
    let z : at + 0 ≡ at = omega arith in
    subst (λ (cs : List Change). Mem (at + 0) (vertices cs)) (sym (changes_differ at x y xs ys q)) (at_head z)
changes_all at (x ∷ xs) (y ∷ ys) (suc v) e l d = go (eqb x y) refl (changes_all (suc at) xs ys v (omega arith) (omega arith) d)
  where
    z : suc at + v ≡ at + suc v
    z = omega arith

    go : (b : Bool) → eqb x y ≡ b → Mem (suc at + v) (vertices (changes_from (suc at) xs ys)) → Mem (at + suc v) (vertices (changes_from at (x ∷ xs) (y ∷ ys)))
    go true q m = subst (λ (cs : List Change). Mem (at + suc v) (vertices cs)) (sym (changes_same at x y xs ys q)) (subst (λ (w : ℕ). Mem w (vertices (changes_from (suc at) xs ys))) z m)
    go false q m = subst (λ (cs : List Change). Mem (at + suc v) (vertices cs)) (sym (changes_differ at x y xs ys q)) (in_Tail (subst (λ (w : ℕ). Mem w (vertices (changes_from (suc at) xs ys))) z m))

report : (olds news : List ℕ) → length olds ≡ length news → Report olds news (changes_from 0 olds news)
report olds news e =
    record {
      rising = changes_rise 0 olds news;
      each_differs = λ c m.
          let k = changes_are 0 olds news c m in
          let v : k.place ≡ c.vertex = omega (arith, k.vertex_is) in
          (omega (arith, v, k.inside), k.old_is ∙ ap (λ (w : ℕ). get_or olds w 0) v, k.new_is ∙ ap (λ (w : ℕ). get_or news w 0) v, k.differ);
      all_that_differ = λ v l d. let z : 0 + v ≡ v = omega arith in subst (λ (w : ℕ). Mem w (vertices (changes_from 0 olds news))) z (changes_all 0 olds news v e l d);
    }

-- "three 32-bit numbers a fitting"
pub numbers_three : (cs : List Change) → length (change_numbers cs) ≡ 3 * length cs
unfolding change_numbers
numbers_three [] = refl
numbers_three (c ∷ cs) = omega (arith, numbers_three cs)

-- ---- what a removal that is not refused leaves and tells

-- the remaining edges, landed and counted anew on the vertices that were there, and a report of every label that changed
pub taken_out : (s : House) → Reachable s.register → (d room : ℕ) (r : Register) (cs : List Change) → remove s d room ≡ removed r cs → TakenOut s.register d r cs
taken_out s c d room r cs q =
    let f = founded s.register c in
    let o : RemovedOf s d room r cs = subst (RemovalIs s d room) q (removal_is s f d room) in
    let es = without d s.register.edges in
    let b = left_anew s.register.vertices es r o.grown in
    let y = rest_lands s.register f d o.was_there in
    let same : y.register ≡ r = landed_is y.register r (sym y.grown ∙ o.grown) in
    let edges : r.edges ≡ es = ap (λ (t : Register). t.edges) (sym same) ∙ y.edges_are in
    let n : length r.edges ≡ length es = ap length edges in
    record {
      was_there = o.was_there;
      grown = o.grown;
      reachable = b.reachable;
      counted_anew = b.history_is;
      vertices_stay = ap (λ (t : Register). t.vertices) (sym same) ∙ y.vertices_are;
      edges_are = edges;
      one_less = omega (arith, n, length_without d s.register.edges o.was_there);
      told = subst (Report s.register.labels r.labels) (sym o.changes) (report s.register.labels r.labels (f.labels_long ∙ sym (founded r b.reachable).labels_long));
    }
