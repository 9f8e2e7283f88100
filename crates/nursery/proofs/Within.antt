-- Document 02, S-10: a list within a limit on the register's edges. It never passes the limit; where it stops with 36 the limit is reached,
-- where with 23 the register is full; and a list that leaves no more edges than the limit is read as without one.
use Rattle.std.specs.Prelude.{if◌then◌else◌}
use mathlib.Core.Path.{◌≡◌, refl, sym, ap, ◌∙◌, subst}
use mathlib.Core.Logic.{◌≢◌}
use Prim.Native.Nat.{ℕ, zero, suc, ◌+◌, ◌≤◌, ◌<◌, max}
use native.Mathlib.Omega.{arith}
use mathlib.Core.Bool.{Bool, true, false, not, ◌&&◌, ◌||◌}
use mathlib.Core.List.{List, [], ◌∷◌, ◌++◌}
use mathlib.Core.Option.{Option, none, some, none-ne-some}
use lib.ListN.{length, drop}
use lib.Dec.{eqb, leb, ltb}
use borrow.Author.Tests.{leb-true}
use Rattle.model.specs.Basics.{max_edges, max_length, max_vertices, max_volume}
use Rattle.model.specs.Graph.{Edge}
use Rattle.model.specs.Register.{Landed, Register, edge_refusal, empty, land_edge_within, land_vertex, landed, refused, with_edge, with_vertex}
use Rattle.model.specs.Format.{Read, Record, Stop, bad, edge, edge_body, first_record, grow_list, has_mark, header_refusal, land_list, land_records, stopped, version_of, vertex, whole}
use Rattle.model.proofs.Basics.Booleans.{if_either}
use Rattle.model.proofs.Walks.NewEdge.{length_new}
use Rattle.model.proofs.Registers.Accepted.{accepted_within, added, lands_within}
use Rattle.model.proofs.Registers.Quotes.{land_edge_by, not_refused, unless_refused}
use Rattle.theory.proofs.Registers.Within.{no_licence}

-- ---- a record's refusals

-- a list that was read to its end, and one that stopped
abbrev Whole : Register → Read
Whole r = record { register = r; stop = whole }

abbrev Stopped : Register → ℕ → ℕ → Read
Stopped r k x = record { register = r; stop = stopped k x }

abbrev BadBelow : Record → Type 0
BadBelow (vertex rest) = Unit {0}
BadBelow (edge e rest) = Unit {0}
BadBelow (bad x) = x ≤ 4

bad_below : (version kind : ℕ) (bs : List ℕ) → BadBelow (first_record version kind bs)
unfolding first_record
bad_below version kind bs =
    if_either BadBelow (eqb kind 0x46) _ _ tt
    (if_either BadBelow (not (eqb kind 0x50)) _ _ (omega arith)
    (if_either BadBelow (ltb (length bs) (edge_body version)) _ _ (omega arith) tt))

abbrev SomeBelow : Option ℕ → Type 0
SomeBelow none = Unit {0}
SomeBelow (some x) = x ≤ 4

header_below : (bs : List ℕ) → SomeBelow (header_refusal bs)
unfolding header_refusal
header_below bs =
    if_either SomeBelow (not (has_mark bs)) _ _ (omega arith)
    (if_either SomeBelow (ltb (length bs) 5) _ _ (omega arith)
    (if_either SomeBelow (not (eqb (version_of bs) 1 || eqb (version_of bs) 2)) _ _ (omega arith) tt))

vertex_22 : (r : Register) (x : ℕ) → land_vertex r ≡ refused x → x ≡ 22
unfolding land_vertex
vertex_22 r x h = go (leb max_vertices r.vertices) h
  where
    go : (b : Bool) → (if b then refused 22 else landed (with_vertex r)) ≡ refused x → x ≡ 22
    go true g = cc
    go false g = absurd (not_refused x (with_vertex r) (sym g))

-- what an edge is refused with is a refusal that holds of it
pub edge_refused : (limit : ℕ) (r : Register) (e : Edge) (x : ℕ) → land_edge_within limit r e ≡ refused x → edge_refusal limit r e ≡ some x
edge_refused limit r e x h = go (edge_refusal limit r e) refl (sym (land_edge_by limit r e) ∙ h)
  where
    same : (y : ℕ) → refused y ≡ refused x → y ≡ x
    same y q = cc

    go : (o : Option ℕ) → edge_refusal limit r e ≡ o → unless_refused r e o ≡ refused x → edge_refusal limit r e ≡ some x
    go (some y) q k = q ∙ ap {B = Option ℕ} some (same y k)
    go none q k = absurd (not_refused x (with_edge r e) (sym k))

-- ---- what each record keeps, a list does

-- of a register and what a list read from it on leaves
record Keeps (limit : ℕ) (P : Register → Read → Type 0) : Type 0 where
  nothing : (r : Register) → P r (Whole r)
  on_bad : (r : Register) (k x : ℕ) → x ≤ 4 → P r (Stopped r k x)
  on_22 : (r : Register) (k : ℕ) → P r (Stopped r k 22)
  on_refused : (r : Register) (e : Edge) (k x : ℕ) → edge_refusal limit r e ≡ some x → P r (Stopped r k x)
  on_vertex : (r r' : Register) (d : Read) → land_vertex r ≡ landed r' → P r' d → P r d
  on_edge : (r : Register) (e : Edge) (r' : Register) (d : Read) → land_edge_within limit r e ≡ landed r' → P r' d → P r d

module _ (limit : ℕ) (P : Register → Read → Type 0) (keeps : Keeps limit P) where
  records_keep : (version n k : ℕ) (r : Register) (bs : List ℕ) → P r (land_records limit version n k r bs)
  unfolding land_records
  records_keep version zero k r bs = keeps.nothing r
  records_keep version (suc n) k r [] = keeps.nothing r
  records_keep version (suc n) k r (kind ∷ bs) = go (first_record version kind bs) refl (λ r' rest. records_keep version n (k + 1) r' rest)
    where
      Rest : Type 0
      Rest = (r' : Register) (rest : List ℕ) → P r' (land_records limit version n (k + 1) r' rest)

      Goal : Type 0
      Goal = P r (land_records limit version (suc n) k r (kind ∷ bs))

      of_vertex : (rest : List ℕ) → first_record version kind bs ≡ vertex rest → (l : Landed) → land_vertex r ≡ l → Rest → Goal
      of_vertex rest e (landed r') f ih = rw (e, f, land_records) (keeps.on_vertex r r' _ f (ih r' rest))
      of_vertex rest e (refused x) f ih = rw (e, f, land_records) (subst (λ (y : ℕ). P r (Stopped r k y)) (sym (vertex_22 r x f)) (keeps.on_22 r k))

      of_edge : (c : Edge) (rest : List ℕ) → first_record version kind bs ≡ edge c rest → (l : Landed) → land_edge_within limit r c ≡ l → Rest → Goal
      of_edge c rest e (landed r') f ih = rw (e, f, land_records) (keeps.on_edge r c r' _ f (ih r' rest))
      of_edge c rest e (refused x) f ih = rw (e, f, land_records) (keeps.on_refused r c k x (edge_refused limit r c x f))

      go : (d : Record) → first_record version kind bs ≡ d → Rest → Goal
      go (vertex rest) e ih = of_vertex rest e (land_vertex r) refl ih
      go (edge c rest) e ih = of_edge c rest e (land_edge_within limit r c) refl ih
      go (bad x) e ih = rw (e, land_records) (keeps.on_bad r k x (subst BadBelow e (bad_below version kind bs)))

  list_keeps : (r : Register) (bs : List ℕ) → P r (land_list limit r bs)
  unfolding land_list
  list_keeps r bs = go (header_refusal bs) refl
    where
      go : (o : Option ℕ) → header_refusal bs ≡ o → P r (land_list limit r bs)
      go (some x) e = rw (e, land_list) (keeps.on_bad r 0 x (subst SomeBelow e (header_below bs)))
      go none e = rw (e, land_list) (records_keep (version_of bs) (length bs) 0 r (drop 5 bs))

-- ---- the number of edges

vertex_same : (r : Register) → (with_vertex r).edges ≡ r.edges
unfolding with_vertex
vertex_same r = refl

vertex_edges : (r r' : Register) → land_vertex r ≡ landed r' → length r'.edges ≡ length r.edges
vertex_edges r r' h = ap (λ (u : Register). length u.edges) (sym (added r r' h).1) ∙ ap length (vertex_same r)

edge_last : (r : Register) (e : Edge) → (with_edge r e).edges ≡ r.edges ++ (e ∷ [])
unfolding with_edge
edge_last r e = refl

-- an edge that landed: there were fewer than the limit, and there is one more
pub one_more : (limit : ℕ) (r : Register) (e : Edge) (r' : Register) → land_edge_within limit r e ≡ landed r'
    → (length r.edges < limit) × (length r'.edges ≡ length r.edges + 1)
one_more limit r e r' h =
    let a = accepted_within limit r e r' h in
    let n : length r'.edges ≡ length (r.edges ++ (e ∷ [])) = ap (λ (u : Register). length u.edges) (sym a.1) ∙ ap length (edge_last r e) in
    (a.0.1, omega (arith, n, length_new r.edges e))

-- "36 neither condition holds": the limit is reached; 23: the register is full
abbrev pub Full : ℕ → ℕ → ℕ → Type 0
Full limit edges x = (x ≡ 36 → limit ≤ edges) × (x ≡ 23 → max_edges ≤ edges)

abbrev FullIf : ℕ → ℕ → Option ℕ → Type 0
FullIf limit edges none = Unit {0}
FullIf limit edges (some x) = Full limit edges x

other : (limit edges x : ℕ) → x ≢ 36 → x ≢ 23 → Full limit edges x
other limit edges x a b = ((λ e. absurd (a e)), (λ e. absurd (b e)))

full_if : (limit : ℕ) (r : Register) (e : Edge) → FullIf limit (length r.edges) (edge_refusal limit r e)
unfolding edge_refusal
full_if limit r e =
    let n = length r.edges in
    let P : Option ℕ → Type 0 = FullIf limit n in
    if_either P (not (ltb e.first r.vertices && ltb e.second r.vertices)) (some 5) _ (other limit n 5 (λ z. omega arith) (λ z. omega arith))
    (if_either P (eqb e.first e.second) (some 6) _ (other limit n 6 (λ z. omega arith) (λ z. omega arith))
    (if_either P (eqb e.len 0 || ltb max_length e.len) (some 7) _ (other limit n 7 (λ z. omega arith) (λ z. omega arith))
    (if_either P (ltb max_volume e.volume) (some 31) _ (other limit n 31 (λ z. omega arith) (λ z. omega arith))
    (go (leb max_edges n) refl (leb limit n) refl))))
  where
    go : (b : Bool) → leb max_edges (length r.edges) ≡ b → (c : Bool) → leb limit (length r.edges) ≡ c
        → FullIf limit (length r.edges) (if b then some 23 else if c then some 36 else none)
    go true q c p = ((λ z. absurd (omega arith)), (λ z. leb-true max_edges (length r.edges) q))
    go false q true p = ((λ z. leb-true limit (length r.edges) p), (λ z. absurd (omega arith)))
    go false q false p = tt

pub edge_full : (limit : ℕ) (r : Register) (e : Edge) (x : ℕ) → edge_refusal limit r e ≡ some x → Full limit (length r.edges) x
edge_full limit r e x h = subst (FullIf limit (length r.edges)) h (full_if limit r e)

-- ---- a list

abbrev pub FullAt : ℕ → ℕ → Stop → Type 0
FullAt limit edges whole = Unit {0}
FullAt limit edges (stopped k x) = Full limit edges x

-- from r on: not fewer edges, not more than there were or than the limit, and why it stopped
pub record Bounded (limit : ℕ) (r : Register) (d : Read) : Type 0 where
  pub not_fewer : length r.edges ≤ length d.register.edges
  pub few : length d.register.edges ≤ max (length r.edges) limit
  pub full : FullAt limit (length d.register.edges) d.stop

bounded_stop : (limit : ℕ) (r : Register) (k x : ℕ) → Full limit (length r.edges) x → Bounded limit r (Stopped r k x)
bounded_stop limit r k x f = record { not_fewer = omega arith; few = omega arith; full = f }

bounded_vertex : (limit : ℕ) (r r' : Register) (d : Read) → land_vertex r ≡ landed r' → Bounded limit r' d → Bounded limit r d
bounded_vertex limit r r' d h b =
    let n = vertex_edges r r' h in
    record { not_fewer = omega (arith, n, b.not_fewer); few = omega (arith, n, b.few); full = b.full }

bounded_edge : (limit : ℕ) (r : Register) (e : Edge) (r' : Register) (d : Read) → land_edge_within limit r e ≡ landed r' → Bounded limit r' d → Bounded limit r d
bounded_edge limit r e r' d h b =
    let m = one_more limit r e r' h in
    record { not_fewer = omega (arith, m.1, b.not_fewer); few = omega (arith, m.0, m.1, b.few); full = b.full }

bounded : (limit : ℕ) → Keeps limit (Bounded limit)
bounded limit =
    record {
      nothing = λ r. record { not_fewer = omega arith; few = omega arith; full = tt };
      on_bad = λ r k x l. bounded_stop limit r k x (other limit (length r.edges) x (λ z. omega arith) (λ z. omega arith));
      on_22 = λ r k. bounded_stop limit r k 22 (other limit (length r.edges) 22 (λ z. omega arith) (λ z. omega arith));
      on_refused = λ r e k x h. bounded_stop limit r k x (edge_full limit r e x h);
      on_vertex = bounded_vertex limit;
      on_edge = bounded_edge limit;
    }

pub list_bounded : (limit : ℕ) (r : Register) (bs : List ℕ) → Bounded limit r (land_list limit r bs)
list_bounded limit = list_keeps limit (Bounded limit) (bounded limit)

-- ---- a list that leaves no more edges than the limit never meets it: so a house's own list, grown there again, is read whole

-- the refusals of an edge before 36, by their tests
abbrev first_of : Bool → Bool → Bool → Bool → Bool → Option ℕ → Option ℕ
first_of a b c d f z = if a then some 5 else if b then some 6 else if c then some 7 else if d then some 31 else if f then some 23 else z

before_36 : (a b c d f : Bool) (y : Option ℕ) (x : ℕ) → first_of a b c d f (if f then some 36 else none) ≡ some x → first_of a b c d f y ≡ some x
before_36 true b c d f y x h = h
before_36 false true c d f y x h = h
before_36 false false true d f y x h = h
before_36 false false false true f y x h = h
before_36 false false false false true y x h = h
before_36 false false false false false y x h = absurd (none-ne-some x h)

refused_so : (limit : ℕ) (r : Register) (e : Edge) (x : ℕ) → edge_refusal max_edges r e ≡ some x → edge_refusal limit r e ≡ some x
unfolding edge_refusal
refused_so limit r e x h =
    before_36 (not (ltb e.first r.vertices && ltb e.second r.vertices)) (eqb e.first e.second)
    (eqb e.len 0 || ltb max_length e.len) (ltb max_volume e.volume) (leb max_edges (length r.edges)) _ x h

refused_same : (limit : ℕ) (r : Register) (e : Edge) (x : ℕ) → land_edge_within max_edges r e ≡ refused x → land_edge_within limit r e ≡ refused x
refused_same limit r e x h = land_edge_by limit r e ∙ ap (unless_refused r e) (refused_so limit r e x (edge_refused max_edges r e x h))

landed_below : (limit : ℕ) (r : Register) (e : Edge) (r' : Register) → land_edge_within max_edges r e ≡ landed r' → length r.edges < limit → land_edge_within limit r e ≡ landed r'
landed_below limit r e r' h l =
    let a = accepted_within max_edges r e r' h in
    lands_within limit r e a.0.0 l ∙ ap {B = Landed} landed a.1

records_room : (limit version n k : ℕ) (r : Register) (bs : List ℕ) → length (land_records max_edges version n k r bs).register.edges ≤ limit
    → land_records limit version n k r bs ≡ land_records max_edges version n k r bs
unfolding land_records
records_room limit version zero k r bs l = refl
records_room limit version (suc n) k r [] l = refl
records_room limit version (suc n) k r (kind ∷ bs) l = go (first_record version kind bs) refl (λ r' rest. records_room limit version n (k + 1) r' rest)
  where
    Goal : Type 0
    Goal = land_records limit version (suc n) k r (kind ∷ bs) ≡ land_records max_edges version (suc n) k r (kind ∷ bs)

    Rest : Type 0
    Rest = (r' : Register) (rest : List ℕ) → length (land_records max_edges version n (k + 1) r' rest).register.edges ≤ limit
        → land_records limit version n (k + 1) r' rest ≡ land_records max_edges version n (k + 1) r' rest

    on_vertex : (rest : List ℕ) → first_record version kind bs ≡ vertex rest → (x : Landed) → land_vertex r ≡ x → Rest → Goal
    on_vertex rest e (landed r') f ih = rw (e, f, land_records) (ih r' rest (rw (e, f, land_records) at l))
    on_vertex rest e (refused x) f ih = rw (e, f, land_records)

    on_edge : (c : Edge) (rest : List ℕ) → first_record version kind bs ≡ edge c rest → (x : Landed) → land_edge_within max_edges r c ≡ x → Rest → Goal
    on_edge c rest e (landed r') f ih =
        let m : length (land_records max_edges version n (k + 1) r' rest).register.edges ≤ limit = rw (e, f, land_records) at l in
        let b : length r.edges < limit = omega (arith, (one_more max_edges r c r' f).1, (records_keep max_edges (Bounded max_edges) (bounded max_edges) version n (k + 1) r' rest).not_fewer, m) in
        rw (e, landed_below limit r c r' f b, f, land_records) (ih r' rest m)
    on_edge c rest e (refused x) f ih = rw (e, refused_same limit r c x f, f, land_records)

    go : (d : Record) → first_record version kind bs ≡ d → Rest → Goal
    go (vertex rest) e ih = on_vertex rest e (land_vertex r) refl ih
    go (edge c rest) e ih = on_edge c rest e (land_edge_within max_edges r c) refl ih
    go (bad x) e ih = rw (e, land_records)

-- such a list is read as without a limit
pub list_room : (limit : ℕ) (r : Register) (bs : List ℕ) → length (land_list max_edges r bs).register.edges ≤ limit → land_list limit r bs ≡ land_list max_edges r bs
unfolding land_list
list_room limit r bs = go (header_refusal bs) refl
  where
    go : (o : Option ℕ) → header_refusal bs ≡ o → length (land_list max_edges r bs).register.edges ≤ limit → land_list limit r bs ≡ land_list max_edges r bs
    go (some x) e l = rw (e, land_list)
    go none e l = rw (e, land_list) (records_room limit (version_of bs) (length bs) 0 r (drop 5 bs) (rw (e, land_list) at l))

-- ---- calls from C and the programs have no licence, and never meet 36

abbrev Not36 : Stop → Type 0
Not36 whole = Unit {0}
Not36 (stopped k x) = x ≢ 36

never : Keeps max_edges (λ r d. Not36 d.stop)
never =
    record {
      nothing = λ r. tt;
      on_bad = λ r k x l z. omega arith;
      on_22 = λ r k z. omega arith;
      on_refused = λ r e k x q z. no_licence r e (q ∙ ap {B = Option ℕ} some z);
      on_vertex = λ r r' d q w. w;
      on_edge = λ r e r' d q w. w;
    }

-- whatever the list, it does not stop with 36
pub never_36 : (bs : List ℕ) (k : ℕ) → (grow_list bs).stop ≢ stopped k 36
unfolding grow_list
never_36 bs k h = subst Not36 h (list_keeps max_edges (λ r d. Not36 d.stop) never empty bs) refl
