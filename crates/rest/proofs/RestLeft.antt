-- The edges of a register but one, landed anew on cleared tables, leave the register that growing them leaves.
use mathlib.Core.Path.{◌≡◌, refl, sym, ap, ◌∙◌, subst}
use Prim.Native.Nat.{ℕ, zero, suc, ◌+◌, ◌-◌, ◌≤◌, ◌<◌}
use native.Mathlib.Omega.{arith}
use native.Mathlib.Nat.{not-suc-le-zero}
use mathlib.Core.Bool.{Bool, false}
use mathlib.Core.List.{List, [], ◌∷◌, ◌++◌, map}
use lib.ListN.{length, take, drop}
use Rattle.model.specs.Basics.{count_from, max_edges, max_vertices, up_to}
use Rattle.model.specs.Graph.{Edge}
use Rattle.model.specs.Register.{Register, empty, land_edge, landed}
use Rattle.model.specs.Tables.{Tables, cleared, counts_of, stored_edge, stored_edges, grow_from, land_edges, tables_of}
use Rattle.model.specs.Notions.{Reachable, with_edge_lem}
use Rattle.model.proofs.Computing.{computing}
use Rattle.model.proofs.Registers.Accepted.{landed_is}
use Rattle.theory.proofs.Registers.Founded.{Founded}
use Rattle.theory.proofs.Registers.Held.{edges_first, grown_from, on_vertices, vertices_grow}
use Rattle.theory.proofs.Registers.OnlyHeld.{vertices_reach}
use Rattle.model.proofs.Registers.ReadBack.{edges_read}
use Rattle.theory.proofs.Registers.Reachable.{founded, reachable_empty}
use Rattle.nursery.specs.Removal.{without}
use Rattle.nursery.proofs.Removal.{rest_lands}
use Rattle.counters.specs.Answers.{counts}
use Rattle.tables.specs.Steps.{edge_of}
use Rattle.insertion.specs.Insertion.{LandingIn, done, land_in, landing_in}
use Rattle.agreement.proofs.Standing.{Warns, warns_edge}
use Rattle.agreement.proofs.Landing.{edge_parts, rings_after, shown_in}
use Rattle.holding.specs.Replay.{replay_in}
use Rattle.rest.specs.Rest.{rest_in}
use Rattle.rest.proofs.RestLaws.{rest_on}

-- ---- edges that land, in two stretches

pub record Between (es fs : List Edge) (r r' : Register) : Type 0 where
  pub register : Register
  pub before : land_edges es r ≡ landed register
  pub behind : land_edges fs register ≡ landed r'

between : (es fs : List Edge) (r r' : Register) → land_edges (es ++ fs) r ≡ landed r' → Between es fs r r'
unfolding land_edges
between [] fs r r' h = record { register = r; before = refl; behind = h }
between (e ∷ es) fs r r' h =
    let f = edges_first e (es ++ fs) r r' h in
    let b = between es fs f.between r' f.others in
    record { register = b.register; before = edges_on e es r f.between f.one ∙ b.before; behind = b.behind }
  where
    edges_on : (e : Edge) (es : List Edge) (r s : Register) → land_edge r e ≡ landed s → land_edges (e ∷ es) r ≡ land_edges es s
    edges_on e es r s q = rw (q, land_edges)

-- some of the edges of tables, from the front and behind
module _ (own : Tables) where
  abbrev edges_from : ℕ → ℕ → List Edge
  edges_from n e = map (stored_edge own) (count_from e n)

  take_edges : (d n e : ℕ) → d ≤ n → take d (edges_from n e) ≡ edges_from d e
  unfolding count_from
  take_edges zero n e h = refl
  take_edges (suc d) zero e h = absurd (not-suc-le-zero h)
  take_edges (suc d) (suc n) e h = ap (λ (es : List Edge). stored_edge own e ∷ es) (take_edges d n (suc e) (omega arith))

  drop_edges : (d n e : ℕ) → d ≤ n → drop d (edges_from n e) ≡ edges_from (n - d) (e + d)
  unfolding count_from
  drop_edges zero n e h = let a : n - 0 ≡ n = omega arith in let b : e + 0 ≡ e = omega arith in rw (a, b)
  drop_edges (suc d) zero e h = absurd (not-suc-le-zero h)
  drop_edges (suc d) (suc n) e h =
      let a : n - d ≡ suc n - suc d = omega arith in
      let b : suc e + d ≡ e + suc d = omega arith in
      drop_edges d n (suc e) (omega arith) ∙ rw (a, b)

  -- ---- edges one after the other

  -- what edges that land leave on the tables; `rings` tells of every ring that stands
  record Replayed (n e : ℕ) (r : Register) (rings : Bool) (r' : Register) : Type 0 where
    rings' : Bool
    is : replay_in own.ends own.lengths own.volumes n e (tables_of r) (counts_of r) rings ≡ landing_in (tables_of r') (done (counts_of r') rings')
    reachable : Reachable r'
    warns : Warns rings' r'.edges

  own_is : (e : ℕ) → edge_of own.ends own.lengths own.volumes e ≡ stored_edge own e
  unfolding stored_edge
  own_is e = refl

  one_replayed : (n e : ℕ) (r s : Register) (rings rings' : Bool) → land_in (tables_of r) (counts_of r) max_edges rings (stored_edge own e) ≡ landing_in (tables_of s) (done (counts_of s) rings')
      → replay_in own.ends own.lengths own.volumes (suc n) e (tables_of r) (counts_of r) rings ≡ replay_in own.ends own.lengths own.volumes n (e + 1) (tables_of s) (counts_of s) rings'
  unfolding replay_in
  one_replayed n e r s rings rings' q = rw (own_is e, ap (λ (l : LandingIn). l.answer) q, replay_in, own_is e, ap (λ (l : LandingIn). l.tables) q)

  own_lands : (e : ℕ) (r s : Register) (rings : Bool) → Reachable r → Warns rings r.edges → land_edge r (stored_edge own e) ≡ landed s
      → land_in (tables_of r) (counts_of r) max_edges rings (stored_edge own e) ≡ landing_in (tables_of s) (done (counts_of s) (rings_after r rings (stored_edge own e)))
  unfolding land_edge shown_in
  own_lands e r s rings g w q =
      let p = edge_parts max_edges r (stored_edge own e) rings g w (landed s) q in
      λ i. landing_in (p.1 i) (p.0 i)

  replayed : (n e : ℕ) (r : Register) (rings : Bool) (r' : Register) → Reachable r → Warns rings r.edges → land_edges (edges_from n e) r ≡ landed r' → Replayed n e r rings r'
  unfolding replay_in land_edges count_from
  replayed zero e r rings r' g w h =
      let q : r ≡ r' = landed_is r r' h in
      subst (λ (s : Register). Replayed zero e r rings s) q (record { rings' = rings; is = refl; reachable = g; warns = w })
  replayed (suc n) e r rings r' g w h =
      let f = edges_first (stored_edge own e) (edges_from n (suc e)) r r' h in
      let s = f.between in
      let next : suc e ≡ e + 1 = omega arith in
      let others : land_edges (edges_from n (e + 1)) s ≡ landed r' = ap (λ (k : ℕ). land_edges (edges_from n k) s) (sym next) ∙ f.others in
      let x = replayed n (e + 1) s (rings_after r rings (stored_edge own e)) r' (with_edge_lem (stored_edge own e) g f.one) (warns_edge r (stored_edge own e) s rings g f.one w) others in
      record {
        rings' = x.rings';
        is = one_replayed n e r s rings (rings_after r rings (stored_edge own e)) (own_lands e r s rings g w f.one) ∙ x.is;
        reachable = x.reachable;
        warns = x.warns;
      }

-- ---- vertices alone

module _ (n : ℕ) where
  on_tables : tables_of (on_vertices n) ≡ cleared
  unfolding computing on_vertices
  on_tables = refl

  on_counts : counts_of (on_vertices n) ≡ counts n 0 0 0
  unfolding counts_of on_vertices
  on_counts = refl

  on_warns : Warns false (on_vertices n).edges
  unfolding on_vertices
  on_warns f d l = absurd (omega arith)

  on_reachable : n ≤ max_vertices → Reachable (on_vertices n)
  on_reachable h = vertices_reach n empty (on_vertices n) reachable_empty (vertices_grow n h)

-- growing lands the edges on the vertices
grown_on : (n : ℕ) (es : List Edge) (r : Register) → n ≤ max_vertices → grow_from n es ≡ landed r → land_edges es (on_vertices n) ≡ landed r
grown_on n es r h g = sym (grown_from n es (on_vertices n) (land_edges es (on_vertices n)) (vertices_grow n h) refl) ∙ g

-- ---- the claim

-- both stretches, one after the other
rest_is : (r : Register) (d : ℕ) (s x : Register) (rings rings' : Bool)
    → replay_in (tables_of r).ends (tables_of r).lengths (tables_of r).volumes d 0 (tables_of (on_vertices r.vertices)) (counts_of (on_vertices r.vertices)) false ≡ landing_in (tables_of s) (done (counts_of s) rings)
    → replay_in (tables_of r).ends (tables_of r).lengths (tables_of r).volumes (length r.edges - (d + 1)) (d + 1) (tables_of s) (counts_of s) rings ≡ landing_in (tables_of x) (done (counts_of x) rings')
    → rest_in (tables_of r).ends (tables_of r).lengths (tables_of r).volumes (counts_of r) d cleared ≡ landing_in (tables_of x) (done (counts_of x) rings')
unfolding counts_of
rest_is r d s x rings rings' p q =
    let own = tables_of r in
    let start : landing_in (tables_of s) (done (counts_of s) rings) ≡ replay_in own.ends own.lengths own.volumes d 0 cleared (counts r.vertices 0 0 0) false =
    sym p ∙ (λ i. replay_in own.ends own.lengths own.volumes d 0 (on_tables r.vertices i) (on_counts r.vertices i) false) in
    sym (rest_on own.ends own.lengths own.volumes (counts_of r) d cleared (tables_of s) (done (counts_of s) rings) start (counts_of s) rings (landing_in (tables_of x) (done (counts_of x) rings')) refl (sym q))

-- what is left without edge d, on the tables
pub record Left (r : Register) (d : ℕ) : Type 0 where
  pub register : Register
  pub grown : grow_from r.vertices (without d r.edges) ≡ landed register
  pub reachable : Reachable register
  pub rings : Bool
  pub is : rest_in (tables_of r).ends (tables_of r).lengths (tables_of r).volumes (counts_of r) d cleared ≡ landing_in (tables_of register) (done (counts_of register) rings)

pub rest_left : (r : Register) → Reachable r → (d : ℕ) → d < length r.edges → Left r d
unfolding without stored_edges up_to
rest_left r g d l =
    let own = tables_of r in
    let m = length r.edges in
    let n = r.vertices in
    let f : Founded r = founded r g in
    let x = rest_lands r f d l in
    let read : edges_from own m 0 ≡ r.edges = edges_read r in
    let first : take d r.edges ≡ edges_from own d 0 = ap (take d) (sym read) ∙ take_edges own d m 0 (omega arith) in
    let last : drop (suc d) r.edges ≡ edges_from own (m - (d + 1)) (d + 1) = ap (drop (suc d)) (sym read) ∙ drop_edges own (suc d) m 0 l ∙ behind_is own m d in
    let all : land_edges (edges_from own d 0 ++ edges_from own (m - (d + 1)) (d + 1)) (on_vertices n) ≡ landed x.register = rw (← first, ← last) (grown_on n (without d r.edges) x.register f.few x.grown) in
    let b = between (edges_from own d 0) (edges_from own (m - (d + 1)) (d + 1)) (on_vertices n) x.register all in
    let p = replayed own d 0 (on_vertices n) false b.register (on_reachable n f.few) (on_warns n) b.before in
    let q = replayed own (m - (d + 1)) (d + 1) b.register p.rings' x.register p.reachable p.warns b.behind in
    record {
      register = x.register;
      grown = x.grown;
      reachable = q.reachable;
      rings = q.rings';
      is = rest_is r d b.register x.register p.rings' q.rings' p.is q.is;
    }
  where
    behind_is : (own : Tables) (m d : ℕ) → edges_from own (m - suc d) (0 + suc d) ≡ edges_from own (m - (d + 1)) (d + 1)
    behind_is own m d = let a : suc d ≡ d + 1 = omega arith in let b : 0 + suc d ≡ d + 1 = omega arith in rw (b, a)
