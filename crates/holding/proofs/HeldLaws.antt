-- Refusal 21 on the tables: landing their own vertices and edges on cleared tables leaves them again just where they hold a register.
use mathlib.Core.Path.{◌≡◌, refl, sym, ap, ◌∙◌, subst}
use mathlib.Core.Logic.{◌≢◌}
use mathlib.Core.Option.{Option, none, some}
use Rattle.model.specs.Register.{Landed, Register, landed, refused}
use Rattle.model.specs.Tables.{Counts, Stored, Tables, counts_of, stored_edges, held, stored_of, tables_of}
use Rattle.model.specs.Notions.{Reachable}
use Rattle.tables.specs.Meaning.{stored}
use Rattle.insertion.specs.Insertion.{refused_in}
use Rattle.theory.proofs.Registers.Held.{grow_again}
use Rattle.theory.proofs.Registers.OnlyHeld.{grow_reaches, held_counts, held_tables, only_held}
use Rattle.agreement.proofs.Registers.{few, stored_held, regrows}
use Rattle.holding.specs.Replay.{left_as, left_by}
use Rattle.holding.proofs.ReplayLaws.{none_some, stored_is}
use Rattle.holding.proofs.Regrowing.{Agrees, growing, regrown, regrow_agrees}

-- a replay that leaves the tables and counts themselves finds the register that they hold
pub replay_held : (t : Tables) (c : Counts) → left_by (regrown t c) ≡ some (stored t c) → (r : Register) × (held (stored t c) ≡ some r)
unfolding stored_of
replay_held t c e = go (growing t c) refl (regrow_agrees t c)
  where
    go : (l : Landed) → growing t c ≡ l → Agrees (growing t c) (regrown t c) → (r : Register) × (held (stored t c) ≡ some r)
    go (landed r) q a =
        let a' : left_by (regrown t c) ≡ some (stored (tables_of r) (counts_of r)) = rw q at a in
        let i = stored_is (stored (tables_of r) (counts_of r)) (stored t c) (sym a' ∙ e) in
        let g : Reachable r = grow_reaches c.vertices (stored_edges t c.edges) r q in
        (r, subst (λ (s : Stored). held s ≡ some r) i (stored_held r g))
    go (refused x) q a =
        let a' : (regrown t c).answer ≡ refused_in x = rw q at a in
        absurd (none_some (stored t c) (sym (ap (left_as (regrown t c).tables) a') ∙ e))

-- what is stored for a register that landing leaves is left by its own replay
stored_replays : (r : Register) → Reachable r → left_by (regrown (tables_of r) (counts_of r)) ≡ some (stored (tables_of r) (counts_of r))
unfolding stored_of
stored_replays r g =
    let q : growing (tables_of r) (counts_of r) ≡ landed r = grow_again r (few r g) (regrows r g) in
    rw q at (regrow_agrees (tables_of r) (counts_of r))

-- so tables and counts that hold a register are left by their own replay
held_replays : (t : Tables) (c : Counts) (r : Register) → held (stored t c) ≡ some r → left_by (regrown t c) ≡ some (stored t c)
held_replays t c r e =
    let h = only_held (stored t c) r e in
    rw (held_tables h, held_counts h) at (stored_replays r h.reachable)

-- where the replay leaves something else, no register is held
pub replay_none : (t : Tables) (c : Counts) → left_by (regrown t c) ≢ some (stored t c) → held (stored t c) ≡ none
replay_none t c n = go (held (stored t c)) refl
  where
    go : (o : Option Register) → held (stored t c) ≡ o → held (stored t c) ≡ none
    go none e = e
    go (some r) e = absurd (n (held_replays t c r e))
