-- The sheet reads of the table of sides only how it turns at regular vertices: whichever of a vertex's two edges stands first, and whatever
-- stands at the others, the rows are the same.
use mathlib.Core.Path.{◌≡◌, refl, sym, ap, ◌∙◌}
use Prim.Native.Nat.{ℕ, zero, suc, ◌+◌, ◌*◌, ◌≤◌, ◌<◌}
use native.Mathlib.Omega.{arith}
use mathlib.Core.Bool.{Bool, true, false}
use mathlib.Core.List.{List, ◌∷◌}
use lib.ListN.{length, get_or, set, replicate}
use lib.Dec.{eqb}
use Rattle.model.specs.Basics.{max_edges, max_vertices}
use Rattle.model.specs.Graph.{Edge, degree, far, turn}
use Rattle.model.specs.Register.{Register}
use Rattle.model.specs.Queries.{sheet}
use Rattle.model.specs.Tables.{Tables, counts_of, tables_of}
use Rattle.model.specs.Notions.{Reachable}
use Rattle.tables.specs.Steps.{far_in, turn_in}
use Rattle.chains.specs.Chains.{Marked, plus_volume32, WalkEnd, goes_on_in, mark_chain_in, mark_in, names_in, row_in, rows_in, sheet_in, sweep_in, walk_in, walk_volume_in}
use Rattle.chains.proofs.WalkLaws.{walk_in_on, walk_in_stop}
use Rattle.chains.proofs.VolumeLaws.{volume_on, volume_stop}
use Rattle.chains.proofs.NameLaws.{mark_on, mark_stop}
use Rattle.model.proofs.Walks.Degree.{is_two}
use Rattle.model.proofs.Walks.Turn.{At}
use Rattle.model.proofs.Registers.ReadBack.{first_read, second_read}
use Rattle.agreement.proofs.Registers.{landed_below}
use Rattle.agreement.proofs.Chaining.{First, at_end, at_home, onward, Step, at_first, at_second, first_step, goes_home, goes_not, goes_on, steps}
use Rattle.agreement.proofs.Sheeting.{sheet_agrees}

-- ---- two tables of sides

-- in n steps from v, reached by edge d, the sides ss and ts turn alike
data Alike (ds ss ts es : List ℕ) (home : ℕ) : ℕ → ℕ → ℕ → Type 0 where
  no_steps : {d v : ℕ} → Alike ds ss ts es home zero d v
  stays : {n d v : ℕ} → goes_on_in ds home v ≡ false → Alike ds ss ts es home n d v
  passes : {n d v c w : ℕ} → goes_on_in ds home v ≡ true → turn_in ss d v ≡ c → turn_in ts d v ≡ c → far_in es c v ≡ w → Alike ds ss ts es home n c w
      → Alike ds ss ts es home (suc n) d v

-- then a walk, the volume along it and the marks on it are the same
module _ (ds ss ts es : List ℕ) (home : ℕ) where
  walk_alike : (ls : List ℕ) {n d v : ℕ} → Alike ds ss ts es home n d v → walk_in ds ss es ls home n d v ≡ walk_in ds ts es ls home n d v
  unfolding walk_in
  walk_alike ls no_steps = refl
  walk_alike ls (stays {n} {d} {v} q) = walk_in_stop ds ss es ls home n d v q ∙ sym (walk_in_stop ds ts es ls home n d v q)
  walk_alike ls (passes {n} {d} {v} {c} {w} q i j f k) =
      rw (walk_in_on ds ss es ls home n d v c w q i f, walk_in_on ds ts es ls home n d v c w q j f, walk_alike ls k)

  volume_alike : (vs : List ℕ) (known : ℕ) {n d v : ℕ} → Alike ds ss ts es home n d v
      → walk_volume_in ds ss es vs home n known d v ≡ walk_volume_in ds ts es vs home n known d v
  unfolding walk_volume_in
  volume_alike vs known no_steps = refl
  volume_alike vs known (stays {n} {d} {v} q) = sym (volume_stop ds ss es vs home n known d v q) ∙ volume_stop ds ts es vs home n known d v q
  volume_alike vs known (passes {n} {d} {v} {c} {w} q i j f k) =
      rw (volume_on ds ss es vs home n known d v c w q i f, volume_on ds ts es vs home n known d v c w q j f) (volume_alike vs (plus_volume32 known (get_or vs c 0)) k)

  mark_alike : (ms : List ℕ) {n d v : ℕ} → Alike ds ss ts es home n d v → mark_in ds ss es home n ms d v ≡ mark_in ds ts es home n ms d v
  unfolding mark_in
  mark_alike ms no_steps = refl
  mark_alike ms (stays {n} {d} {v} q) = sym (mark_stop ds ss es home n ms d v q) ∙ mark_stop ds ts es home n ms d v q
  mark_alike ms (passes {n} {d} {v} {c} {w} q i j f k) =
      rw (mark_on ds ss es home n ms d v c w q i f, mark_on ds ts es home n ms d v c w q j f) (mark_alike (set ms c 1) k)

-- where all walks from the two ends of an edge turn alike, so are the rows
module _ (ds ss ts es ls vs : List ℕ) (n : ℕ) (first : (home e : ℕ) → e < n → Alike ds ss ts es home n e (get_or es (2 * e) 0))
    (second : (home e : ℕ) → e < n → Alike ds ss ts es home n e (get_or es (2 * e + 1) 0)) where
  row_alike : (e : ℕ) → e < n → row_in ds ss es ls vs n e ≡ row_in ds ts es ls vs n e
  unfolding row_in
  row_alike e h =
      let a : ℕ = get_or es (2 * e) 0 in
      let b : ℕ = get_or es (2 * e + 1) 0 in
      let on : WalkEnd = walk_in ds ts es ls a n e b in
      let known : ℕ = walk_volume_in ds ts es vs a n (get_or vs e 0) e b in
      rw (
        walk_alike ds ss ts es a ls (second a e h),
        walk_alike ds ss ts es on.at ls (first on.at e h),
        volume_alike ds ss ts es a vs (get_or vs e 0) (second a e h),
        volume_alike ds ss ts es on.at vs known (first on.at e h),
      )

  chain_alike : (ms : List ℕ) (e : ℕ) → e < n → mark_chain_in ds ss es n ms e ≡ mark_chain_in ds ts es n ms e
  unfolding mark_chain_in
  chain_alike ms e h =
      let a : ℕ = get_or es (2 * e) 0 in
      let on : Marked = mark_in ds ts es a n ms e (get_or es (2 * e + 1) 0) in
      rw (mark_alike ds ss ts es a ms (second a e h), mark_alike ds ss ts es on.at on.marks (first on.at e h))

  abbrev rows_by : List ℕ → ℕ → List ℕ → ℕ → List (List ℕ)
  rows_by sides k ms d = rows_in ds sides es ls vs n (sweep_in ds sides es n k ms d)

  rows_alike : (k : ℕ) (ms : List ℕ) (d : ℕ) → d + k ≡ n → rows_by ss k ms d ≡ rows_by ts k ms d
  unfolding rows_in sweep_in
  rows_alike zero ms d h = refl
  rows_alike (suc k) ms d h = go (eqb (get_or ms d 0) 0) refl (λ ns. rows_alike k ns (suc d) (omega arith))
    where
      l : d < n
      l = omega arith

      go : (b : Bool) → eqb (get_or ms d 0) 0 ≡ b → ((ns : List ℕ) → rows_by ss k ns (suc d) ≡ rows_by ts k ns (suc d)) → rows_by ss (suc k) ms d ≡ rows_by ts (suc k) ms d
      go true e ih =
          rw (e, sweep_in, row_alike d l, chain_alike ms d l)
          (ap (λ (rows : List (List ℕ)). row_in ds ts es ls vs n d ∷ rows) (ih (mark_chain_in ds ts es n ms d)))
      go false e ih = rw (e, sweep_in) (ih ms)

-- ---- the sides of a register, in any order

-- a table of sides that turns at every regular vertex as the edges do
module _ (r : Register) (g : Reachable r) (sides : List ℕ)
    (turns : (v d : ℕ) → v < max_vertices → degree r.edges v ≡ 2 → At r.edges v d → turn_in sides d v ≡ turn r.edges d v) where
  alike : (home n d v : ℕ) → At r.edges v d → Alike (tables_of r).degrees sides (tables_of r).sides (tables_of r).ends home n d v
  alike home zero d v a = no_steps
  alike home (suc n) d v a = go (first_step r home v) (λ c at. alike home n c (far es c v) at)
    where
      es : List Edge
      es = r.edges

      t : Tables
      t = tables_of r

      go : First r home v → ((c : ℕ) → At es (far es c v) c → Alike t.degrees sides t.sides t.ends home n c (far es c v))
          → Alike t.degrees sides t.sides t.ends home (suc n) d v
      go (at_end q) ih = stays (goes_not r g home d v a q)
      go (at_home q e) ih = stays (goes_home r g home d v a e)
      go (onward q e) ih =
          let x : Step r d v = steps r g d v a q in
          passes (goes_on r g home d v a q e) (turns v d (landed_below r g v d a) (is_two es v q) a) x.turns
          x.arrives (ih (turn es d v) x.at)

  -- over such sides the sheet is that of the definitions
  pub sheet_turns : (m : ℕ) → max_edges ≤ m
      → sheet_in (tables_of r).degrees sides (tables_of r).ends (tables_of r).lengths (tables_of r).volumes (counts_of r).edges (replicate m 0) ≡ sheet r
  unfolding sheet_in names_in counts_of
  sheet_turns m h =
      let es : List Edge = r.edges in
      let t : Tables = tables_of r in
      rows_alike t.degrees sides t.sides t.ends t.lengths t.volumes (length es)
      (λ home d l. rw (first_read r d l) (alike home (length es) d _ (at_first r g d l)))
      (λ home d l. rw (second_read r d l) (alike home (length es) d _ (at_second r g d l))) (length es) (replicate m 0) 0 (omega arith)
      ∙ sheet_agrees r g m h
