-- Document 02, S-5: what a quote reads from the tables of a register that landing leaves is the quote of the definition. So whoever compares
-- a quote with the one that is read, and then lands its edge, does what the commit of the definition does.
use Rattle.std.specs.Prelude.{if◌then◌else◌}
use mathlib.Core.Path.{◌≡◌, refl, sym, ap, ◌∙◌}
use mathlib.Core.Logic.{◌≢◌}
use Prim.Native.Nat.{ℕ}
use mathlib.Core.Bool.{Bool, true, false, not}
use mathlib.Core.Option.{Option, none, some}
use lib.ListN.{length}
use lib.Dec.{eqb}
use borrow.Author.Tests.{eqb-true}
use Rattle.model.specs.Graph.{Edge}
use Rattle.model.specs.Register.{Quote, Register, Terms, commit, commit_made, declines, edge_refusal, eq_edge, eq_quote, eq_terms, land_edge_within, offers, quote, refused}
use Rattle.model.specs.Tables.{counts_of, tables_of}
use Rattle.model.specs.Notions.{Reachable}
use Rattle.insertion.specs.Insertion.{land_in, landing_in, refused_in}
use Rattle.quoting.specs.Quoting.{quote_in, terms_in}
use Rattle.model.proofs.Basics.Booleans.{and_true, not_both}
use Rattle.model.proofs.Registers.Accepted.{unrefused}
use Rattle.model.proofs.Registers.Quotes.{commit_differs, commit_same, terms_for, terms_by}
use Rattle.agreement.proofs.Standing.{Warns}
use Rattle.agreement.proofs.Registers.{few}
use Rattle.agreement.proofs.Offering.{offers_agree}
use Rattle.agreement.proofs.Landing.{checked_as, check_agrees, land_agrees, rings_after, shown_in}

-- the quote of an edge as it is read from the tables of the register
abbrev pub read_quote : ℕ → Register → Bool → Edge → Quote
read_quote limit r rings e = let t = tables_of r in quote_in t.degrees t.sides t.ends t.labels (counts_of r) limit rings e

module _ (limit : ℕ) (r : Register) (e : Edge) (rings : Bool) (g : Reachable r) (warns : Warns rings r.edges) where
  -- by the refusal of the edge: it is declined so, or offered
  terms_agree : (o : Option ℕ) → edge_refusal limit r e ≡ o
      → let t = tables_of r in terms_in t.degrees t.sides t.ends t.labels (counts_of r).edges rings (checked_as e o) ≡ terms_for r e o
  unfolding tables_of counts_of
  terms_agree (some x) q = refl
  terms_agree none q =
      let p = (unrefused limit r e q).0.lawful in
      offers_agree r e rings g warns p.first_landed p.second_landed p.differ

  -- what is read from the tables is the quote of the definition
  pub quote_agrees : let t = tables_of r in quote_in t.degrees t.sides t.ends t.labels (counts_of r) limit rings e ≡ quote limit r e
  unfolding quote_in quote counts_of
  quote_agrees =
      let t = tables_of r in
      ap (λ (terms : Terms). record { asked = e; terms = terms; vertices = r.vertices; edges = length r.edges })
      (ap (terms_in t.degrees t.sides t.ends t.labels (length r.edges) rings) (check_agrees limit r e (few r g))
      ∙ terms_agree (edge_refusal limit r e) refl ∙ sym (terms_by limit r e))

-- ---- a commit, by the quote that is read now

-- what a quote's commit does if nothing is left to compare goes by its edge and its terms
made_alike : (r : Register) (e : Edge) (t s : Terms) (v n w m : ℕ) → eq_terms t s ≡ true
    → commit_made r (record { asked = e; terms = t; vertices = v; edges = n }) ≡ commit_made r (record { asked = e; terms = s; vertices = w; edges = m })
unfolding commit_made eq_terms
made_alike r e (offers c n) (offers k m) v x w y h = refl
made_alike r e (offers c n) (declines y) v x w z h = absurd (not_both _ h refl)
made_alike r e (declines x) (offers k m) v n w z h = absurd (not_both _ h refl)
made_alike r e (declines x) (declines y) v n w z h = ap refused (eqb-true x y h)

module _ (limit : ℕ) (r : Register) (q : Quote) (rings : Bool) (g : Reachable r) (warns : Warns rings r.edges) where
  -- a quote that is the one read now: its commit lands the edge
  pub commit_read : read_quote limit r rings q.asked ≡ q → commit limit r q ≡ land_edge_within limit r q.asked
  commit_read h = commit_same limit r q (sym h ∙ quote_agrees limit r q.asked rings g warns)

  -- any other quote is refused with 32
  pub commit_other : read_quote limit r rings q.asked ≢ q → commit limit r q ≡ refused 32
  commit_other h = commit_differs limit r q (λ i. h (quote_agrees limit r q.asked rings g warns ∙ sym i))

  -- both at once, by the test of two quotes that the code makes
  pub commit_tested : commit limit r q ≡ (if not (eq_quote q (read_quote limit r rings q.asked)) then refused 32 else land_edge_within limit r q.asked)
  unfolding commit land_edge_within quote eq_quote
  commit_tested = rw (quote_agrees limit r q.asked rings g warns) (go (eq_quote q (quote limit r q.asked)) refl)
    where
      terms_same : eq_quote q (quote limit r q.asked) ≡ true → eq_terms q.terms (quote limit r q.asked).terms ≡ true
      terms_same h =
          let p = quote limit r q.asked in
          let h₂ = and_true _ (eqb q.vertices p.vertices) (and_true _ (eqb q.edges p.edges) h).0 in
          (and_true (eq_edge q.asked p.asked) (eq_terms q.terms p.terms) h₂.0).1

      go : (t : Bool) → eq_quote q (quote limit r q.asked) ≡ t
          → (if not t then refused 32 else commit_made r q) ≡ (if not t then refused 32 else commit_made r (quote limit r q.asked))
      go true h = made_alike r q.asked q.terms (quote limit r q.asked).terms q.vertices q.edges r.vertices (length r.edges) (terms_same h)
      go false h = refl

  -- on the tables: whoever compares and then lands leaves what the commit of the definition leaves
  pub commit_agrees : (if not (eq_quote q (read_quote limit r rings q.asked)) then landing_in (tables_of r) (refused_in 32) else land_in (tables_of r) (counts_of r) limit rings q.asked)
      ≡ shown_in r (rings_after r rings q.asked) (commit limit r q)
  unfolding shown_in
  commit_agrees = rw commit_tested (go (eq_quote q (read_quote limit r rings q.asked)))
    where
      go : (t : Bool) → (if not t then landing_in (tables_of r) (refused_in 32) else land_in (tables_of r) (counts_of r) limit rings q.asked)
          ≡ shown_in r (rings_after r rings q.asked) (if not t then refused 32 else land_edge_within limit r q.asked)
      go true = land_agrees limit r q.asked rings g warns
      go false = refl
