-- Document 02, S-5: "A quote must equal what the commit then does."
use mathlib.Core.Path.{◌≡◌, refl, sym, ap, ◌∙◌, subst}
use Prim.Native.Nat.{ℕ}
use native.Mathlib.Omega.{arith}
use mathlib.Core.List.{[], ◌∷◌, ◌++◌}
use mathlib.Core.Option.{Option, none, some}
use lib.ListN.{length}
use Rattle.model.specs.Graph.{Edge, edge_on_ring}
use Rattle.model.specs.Cases.{Case, case_at, closes, closes_ring, extends, merges, new_chain, split_both, split_extends, split_new}
use Rattle.model.specs.Labels.{label_edge}
use Rattle.model.specs.Register.{Quote, Register, case_number, commit, declines, edge_refusal, landed, marks_of, offers, quote, refused, relabels_of, with_edge}
use Rattle.model.specs.Notions.{Admissible, LandedAs}
use Rattle.model.proofs.Walks.Degree.{Proper}
use Rattle.model.proofs.Walks.Ring.{ring_decides}
use Rattle.theory.proofs.Labels.Closings.{case_closing, closing_case}
use Rattle.model.proofs.Registers.Accepted.{accepted_within, no_refusal}
use Rattle.model.proofs.Registers.Quotes.{terms_for, terms_by, commit_lands, commit_same, land_edge_by, unless_refused}

-- ---- the terms of a quote

-- an edge that has a refusal is declined with it
pub quoted_some : (limit : ℕ) (r : Register) (e : Edge) (x : ℕ) → edge_refusal limit r e ≡ some x → (quote limit r e).terms ≡ declines x
quoted_some limit r e x h = terms_by limit r e ∙ ap (terms_for r e) h

-- an edge that has no refusal is offered, with its case and how many vertices it relabels
pub quoted_none : (limit : ℕ) (r : Register) (e : Edge) → edge_refusal limit r e ≡ none → (quote limit r e).terms ≡ offers (case_number (case_at r.edges e)) (relabels_of r e)
quoted_none limit r e h = terms_by limit r e ∙ ap (terms_for r e) h

not_offered : (x c n : ℕ) → declines x ≡ offers c n → ⊥
not_offered x c n h = let z : ◌≡◌ {A = ℕ} 0 1 = cc in omega arith

declines_is : (x y : ℕ) → declines x ≡ declines y → x ≡ y
declines_is x y h = cc

-- ---- what is offered lands, what is declined is refused so

-- where a quote made now offers, its commit lands the edge
pub quoted_lands : (limit : ℕ) (r : Register) (q : Quote) (c n : ℕ) → q ≡ quote limit r q.asked → q.terms ≡ offers c n → commit limit r q ≡ landed (with_edge r q.asked)
quoted_lands limit r q c n h t =
    commit_same limit r q h ∙ land_edge_by limit r q.asked ∙ go (edge_refusal limit r q.asked) refl (sym (terms_by limit r q.asked) ∙ sym (ap (λ (p : Quote). p.terms) h) ∙ t)
  where
    go : (o : Option ℕ) → edge_refusal limit r q.asked ≡ o → terms_for r q.asked o ≡ offers c n → unless_refused r q.asked o ≡ landed (with_edge r q.asked)
    go (some x) e k = absurd (not_offered x c n k)
    go none e k = refl

-- where a quote made now declines, its commit is refused with the same
pub quoted_declines : (limit : ℕ) (r : Register) (q : Quote) (x : ℕ) → q ≡ quote limit r q.asked → q.terms ≡ declines x → commit limit r q ≡ refused x
quoted_declines limit r q x h t =
    commit_same limit r q h ∙ land_edge_by limit r q.asked ∙ go (edge_refusal limit r q.asked) refl (sym (terms_by limit r q.asked) ∙ sym (ap (λ (p : Quote). p.terms) h) ∙ t)
  where
    go : (o : Option ℕ) → edge_refusal limit r q.asked ≡ o → terms_for r q.asked o ≡ declines x → unless_refused r q.asked o ≡ refused x
    go (some y) e k = ap refused (declines_is y x k)
    go none e k = absurd (not_offered x _ _ (sym k))

-- ---- the case

seven_closes : (c : Case) → case_number c ≡ 7 → c ≡ closes
unfolding case_number
seven_closes new_chain h = absurd (omega arith)
seven_closes (extends x) h = absurd (omega arith)
seven_closes merges h = absurd (omega arith)
seven_closes closes h = refl
seven_closes (split_extends x) h = absurd (omega arith)
seven_closes (split_new x) h = absurd (omega arith)
seven_closes split_both h = absurd (omega arith)

closes_seven : (c : Case) → c ≡ closes → case_number c ≡ 7
unfolding case_number
closes_seven c h = rw h

-- ---- an edge that is committed

module _ (limit : ℕ) (r : Register) (pr : Proper r.edges) where
  as_made : (e : Edge) → Admissible r e → edge_refusal limit r e ≡ none → LandedAs r (quote limit r e) (with_edge r e)
  unfolding quote with_edge relabels_of marks_of label_edge
  as_made e a h =
      let decides : edge_on_ring (r.edges ++ (e ∷ [])) (length r.edges) ≡ closes_ring r.edges e.first e.second = ring_decides r.edges e pr a.lawful.differ in
      record {
        leaves = refl;
        at_vertices = refl;
        at_edges = refl;
        by = case_at r.edges e;
        count = relabels_of r e;
        terms_are = quoted_none limit r e h;
        by_degrees = refl;
        labelled_by = refl;
        ring_closed = λ s. decides ∙ case_closing r.edges e (seven_closes _ s);
        only_ring = λ s. closes_seven _ (closing_case r.edges e (sym decides ∙ s));
        relabels = refl;
        total_grows = refl;
      }

  -- a commit that lands does what its quote said
  pub landed_as : (q : Quote) (r' : Register) → commit limit r q ≡ landed r' → LandedAs r q r'
  landed_as q r' h =
      let k = commit_lands limit r q r' h in
      let a = accepted_within limit r q.asked r' k.1 in
      subst (λ (s : Register). LandedAs r q s) a.1
      (subst (λ (p : Quote). LandedAs r p (with_edge r q.asked)) (sym k.0) (as_made q.asked a.0.0 (no_refusal limit r q.asked a.0.0 a.0.1)))
