-- The terms of a quote over the tables that a list leaves, its pipe given in numbers of 32 bits.
use mathlib.Core.Path.{◌≡◌, sym, ap, ◌∙◌}
use Prim.Native.Nat.{ℕ, ◌≤◌}
use native.Mathlib.Omega.{arith}
use mathlib.Core.Bool.{true, false, ◌&&◌, and-false}
use mathlib.Core.List.{List}
use mathlib.Core.Option.{some}
use lib.Dec.{ltb}
use borrow.Author.Tests.{le-ltb}
use Rattle.model.specs.Basics.{max_edges, max_vertices}
use Rattle.model.specs.Graph.{Edge}
use Rattle.model.specs.Register.{Quote, Register, Terms, declines, edge_refusal, quote}
use Rattle.model.specs.Queries.{quoted}
use Rattle.model.specs.FromC.{Returned, returns_reply, returns_terms}
use Rattle.model.specs.Tables.{Counts}
use Rattle.model.specs.Notions.{HeldOf}
use Rattle.theory.proofs.Registers.OnlyHeld.{held_counts, held_tables}
use Rattle.theory.proofs.Registers.Reachable.{founded}
use Rattle.model.proofs.Registers.Quotes.{terms_by}
use Rattle.tables.specs.Meaning.{stored, tables}
use Rattle.quoting.specs.Quoting.{quote_in}
use Rattle.agreement.proofs.Standing.{warns_any}
use Rattle.agreement.proofs.Quoting.{quote_agrees}

-- an end beyond every vertex is not landed, whichever it is
module _ (r : Register) (e : Edge) where
  not_landed : (ltb e.first r.vertices && ltb e.second r.vertices) ≡ false → declines 5 ≡ (quote max_edges r e).terms
  unfolding edge_refusal
  not_landed h =
      let f : edge_refusal max_edges r e ≡ some 5 = rw h in
      sym (terms_by max_edges r e ∙ rw f)

  -- a quote with such an end declines with 5, be it the first or the second
  pub first_beyond : r.vertices ≤ e.first → declines 5 ≡ (quote max_edges r e).terms
  first_beyond h = not_landed (rw (le-ltb e.first r.vertices h))

  pub second_beyond : r.vertices ≤ e.second → declines 5 ≡ (quote max_edges r e).terms
  second_beyond h = not_landed (rw (le-ltb e.second r.vertices h) (and-false (ltb e.first r.vertices)))

module _ (d s es l u lb : List ℕ) (c : Counts) (r : Register) (h : HeldOf (stored (tables d s es l u lb) c) r) where
  -- a register has no vertex above the bound
  pub beyond : (v : ℕ) → max_vertices ≤ v → r.vertices ≤ v
  beyond v m = omega (arith, (founded r h.reachable).few)

  -- what was read, of the numbers as they were given
  pub terms_read : (v w v' w' n m : ℕ) (q : Quote) → v' ≡ v → w' ≡ w
      → q ≡ quote_in d s es lb c max_edges true (record { first = v'; second = w'; len = n; volume = m })
      → q.terms ≡ (quote max_edges r (record { first = v; second = w; len = n; volume = m })).terms
  terms_read v w v' w' n m q a b p =
      let e : Edge = record { first = v; second = w; len = n; volume = m } in
      let k : quote_in d s es lb c max_edges true e ≡ quote max_edges r e = rw (held_tables h, held_counts h) at (quote_agrees max_edges r e true h.reachable (warns_any r.edges)) in
      let f : q ≡ quote max_edges r e = p ∙ rw (a, b) k in
      ap (λ (x : Quote). x.terms) f

-- a quote from C answers its terms
pub quote_question : (r : Register) (e : Edge) (slice : List ℕ) (z : Returned) (t : Terms) → t ≡ (quote max_edges r e).terms → z ≡ returns_terms slice t
    → z ≡ returns_reply r slice (quoted (quote max_edges r e))
unfolding returns_reply
quote_question r e slice z t p q = q ∙ ap (returns_terms slice) p
