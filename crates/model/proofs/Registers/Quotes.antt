-- Document 02, S-5. The test of two quotes finds just what is equal; so what a commit does, with whatever quote it comes. An edge of a list, which
-- goes through the pair, lands exactly if no refusal holds of it.
use Rattle.std.specs.Prelude.{if◌then◌else◌}
use mathlib.Core.Path.{◌≡◌, refl, sym, ap, ◌∙◌, subst}
use mathlib.Core.Logic.{◌≢◌, ◌⊎◌, inl, inr}
use Prim.Native.Nat.{ℕ}
use native.Mathlib.Omega.{arith}
use mathlib.Core.Bool.{Bool, true, false, not, ◌&&◌, ◌||◌}
use mathlib.Core.Option.{Option, none, some}
use lib.ListN.{length}
use lib.Dec.{eqb, leb, ltb}
use borrow.Author.Tests.{eq-eqb, eqb-true}
use Rattle.model.specs.Basics.{max_edges, max_length, max_volume}
use Rattle.model.specs.Graph.{Edge}
use Rattle.model.specs.Cases.{case_at}
use Rattle.model.specs.Register.{Landed, Quote, Register, Terms, case_number, commit, commit_made, declines, edge_refusal, eq_edge, eq_quote, eq_terms, land_edge_within, landed, offers, quote, refused, relabels_of, with_edge}
use Rattle.model.proofs.Basics.Booleans.{and_true, if_either, not_both, true_or_false}

-- ---- what is equal passes the test

edge_same : (e : Edge) → eq_edge e e ≡ true
unfolding eq_edge
edge_same e =
    rw (
      eq-eqb e.first e.first refl,
      eq-eqb e.second e.second refl,
      eq-eqb e.len e.len refl,
      eq-eqb e.volume e.volume refl,
    )

terms_same : (t : Terms) → eq_terms t t ≡ true
unfolding eq_terms
terms_same (offers c n) = rw (eq-eqb c c refl, eq-eqb n n refl)
terms_same (declines x) = eq-eqb x x refl

quote_same : (q : Quote) → eq_quote q q ≡ true
unfolding eq_quote
quote_same q =
    rw (
      edge_same q.asked,
      terms_same q.terms,
      eq-eqb q.vertices q.vertices refl,
      eq-eqb q.edges q.edges refl,
    )

-- ---- and what passes it is equal

edge_parts : {a a' b b' c c' d d' : ℕ} → a ≡ a' → b ≡ b' → c ≡ c' → d ≡ d'
    → ◌≡◌ {A = Edge} (record { first = a; second = b; len = c; volume = d }) (record { first = a'; second = b'; len = c'; volume = d' })
edge_parts p q r s = λ i. record { first = p i; second = q i; len = r i; volume = s i }

edge_one : (e f : Edge) → eq_edge e f ≡ true → e ≡ f
unfolding eq_edge
edge_one e f h =
    let h₃ = and_true _ (eqb e.volume f.volume) h in
    let h₂ = and_true _ (eqb e.len f.len) h₃.0 in
    let h₁ = and_true (eqb e.first f.first) (eqb e.second f.second) h₂.0 in
    edge_parts (eqb-true _ _ h₁.0) (eqb-true _ _ h₁.1) (eqb-true _ _ h₂.1) (eqb-true _ _ h₃.1)

terms_one : (t s : Terms) → eq_terms t s ≡ true → t ≡ s
unfolding eq_terms
terms_one (offers c n) (offers k m) h =
    let p = and_true (eqb c k) (eqb n m) h in
    let a : c ≡ k = eqb-true c k p.0 in
    let b : n ≡ m = eqb-true n m p.1 in
    rw (a, b)
terms_one (offers c n) (declines y) h = absurd (let z : ◌≡◌ {A = ℕ} 0 1 = cc in omega arith)
terms_one (declines x) (offers k m) h = absurd (let z : ◌≡◌ {A = ℕ} 0 1 = cc in omega arith)
terms_one (declines x) (declines y) h = ap declines (eqb-true x y h)

quote_parts : {a a' : Edge} {b b' : Terms} {c c' d d' : ℕ} → a ≡ a' → b ≡ b' → c ≡ c' → d ≡ d'
    → ◌≡◌ {A = Quote} (record { asked = a; terms = b; vertices = c; edges = d }) (record { asked = a'; terms = b'; vertices = c'; edges = d' })
quote_parts p q r s = λ i. record { asked = p i; terms = q i; vertices = r i; edges = s i }

quote_one : (q p : Quote) → eq_quote q p ≡ true → q ≡ p
unfolding eq_quote
quote_one q p h =
    let h₃ = and_true _ (eqb q.edges p.edges) h in
    let h₂ = and_true _ (eqb q.vertices p.vertices) h₃.0 in
    let h₁ = and_true (eq_edge q.asked p.asked) (eq_terms q.terms p.terms) h₂.0 in
    quote_parts (edge_one _ _ h₁.0) (terms_one _ _ h₁.1) (eqb-true _ _ h₂.1) (eqb-true _ _ h₃.1)

-- ---- the terms of a quote

-- the terms of a quote, by the refusal of its edge
abbrev pub terms_for : Register → Edge → Option ℕ → Terms
terms_for r e (some x) = declines x
terms_for r e none = offers (case_number (case_at r.edges e)) (relabels_of r e)

-- a quote has the terms that its edge's refusal says
pub terms_by : (limit : ℕ) (r : Register) (e : Edge) → (quote limit r e).terms ≡ terms_for r e (edge_refusal limit r e)
unfolding quote
terms_by limit r e = go (edge_refusal limit r e)
  where
    go : (o : Option ℕ) → elim o [ some x ↦ declines x | none ↦ offers (case_number (case_at r.edges e)) (relabels_of r e) ] ≡ terms_for r e o
    go (some x) = refl
    go none = refl

-- ---- a commit

same_now : (limit : ℕ) (r : Register) (e : Edge) → eq_quote (quote limit r e) (quote limit r (quote limit r e).asked) ≡ true
unfolding quote
same_now limit r e = quote_same (quote limit r e)

-- what a list's edge comes to
abbrev pub unless_refused : Register → Edge → Option ℕ → Landed
unless_refused r e (some x) = refused x
unless_refused r e none = landed (with_edge r e)

-- "go through the pair for each pipe"
pub through_pair : (limit : ℕ) (r : Register) (e : Edge) → commit limit r (quote limit r e) ≡ land_edge_within limit r e
unfolding land_edge_within commit
through_pair limit r e = go (eq_quote (quote limit r e) (quote limit r (quote limit r e).asked)) (same_now limit r e)
  where
    go : (b : Bool) → b ≡ true → (if not b then refused 32 else commit_made r (quote limit r e)) ≡ commit_made r (quote limit r e)
    go true h = refl
    go false h = absurd (let z : ◌≡◌ {A = ℕ} 0 1 = cc in omega arith)

-- what is done by the terms of a quote
abbrev by_terms : Register → Edge → Terms → Landed
by_terms r e (offers c n) = landed (with_edge r e)
by_terms r e (declines x) = refused x

made_by : (r : Register) (q : Quote) (t : Terms) → q.terms ≡ t → commit_made r q ≡ by_terms r q.asked t
unfolding commit_made
made_by r q (offers c n) h = rw (h, commit_made)
made_by r q (declines x) h = rw (h, commit_made)

-- an edge of a list lands unless it has a refusal
pub land_edge_by : (limit : ℕ) (r : Register) (e : Edge) → land_edge_within limit r e ≡ unless_refused r e (edge_refusal limit r e)
unfolding land_edge_within quote
land_edge_by limit r e = made_by r (quote limit r e) (terms_for r e (edge_refusal limit r e)) (terms_by limit r e) ∙ go (edge_refusal limit r e)
  where
    go : (o : Option ℕ) → by_terms r e (terms_for r e o) ≡ unless_refused r e o
    go (some x) = refl
    go none = refl

-- any quote that is one made now: equal but older too
pub commit_same : (limit : ℕ) (r : Register) (q : Quote) → q ≡ quote limit r q.asked → commit limit r q ≡ land_edge_within limit r q.asked
commit_same limit r q h = ap (λ (p : Quote). commit limit r p) h ∙ through_pair limit r q.asked

-- any other
pub commit_differs : (limit : ℕ) (r : Register) (q : Quote) → q ≢ quote limit r q.asked → commit limit r q ≡ refused 32
unfolding commit
commit_differs limit r q h = go (eq_quote q (quote limit r q.asked)) refl
  where
    go : (b : Bool) → eq_quote q (quote limit r q.asked) ≡ b → commit limit r q ≡ refused 32
    go true t = absurd (h (quote_one q (quote limit r q.asked) t))
    go false t = rw t

-- ---- refusals

-- those of an edge: 32 is none of them, nor are 21 and 25
pub record OfEdge (x : ℕ) : Type 0 where
  pub not_21 : x ≢ 21
  pub not_25 : x ≢ 25
  pub not_32 : x ≢ 32

abbrev Each : Option ℕ → Type 0
Each (some x) = OfEdge x
Each none = Unit {0}

refusals_are : (limit : ℕ) (r : Register) (e : Edge) → Each (edge_refusal limit r e)
unfolding edge_refusal
refusals_are limit r e =
    if_either Each (not (ltb e.first r.vertices && ltb e.second r.vertices)) (some 5) _ (of 5 (λ z. omega arith) (λ z. omega arith) (λ z. omega arith))
    (if_either Each (eqb e.first e.second) (some 6) _ (of 6 (λ z. omega arith) (λ z. omega arith) (λ z. omega arith))
    (if_either Each (eqb e.len 0 || ltb max_length e.len) (some 7) _ (of 7 (λ z. omega arith) (λ z. omega arith) (λ z. omega arith))
    (if_either Each (ltb max_volume e.volume) (some 31) _ (of 31 (λ z. omega arith) (λ z. omega arith) (λ z. omega arith))
    (if_either Each (leb max_edges (length r.edges)) (some 23) _ (of 23 (λ z. omega arith) (λ z. omega arith) (λ z. omega arith))
    (if_either Each (leb limit (length r.edges)) (some 36) none (of 36 (λ z. omega arith) (λ z. omega arith) (λ z. omega arith)) tt)))))
  where
    of : (x : ℕ) → x ≢ 21 → x ≢ 25 → x ≢ 32 → OfEdge x
    of x a b c = record { not_21 = a; not_25 = b; not_32 = c }

pub refusal_is : (limit : ℕ) (r : Register) (e : Edge) (x : ℕ) → edge_refusal limit r e ≡ some x → OfEdge x
refusal_is limit r e x h = subst Each h (refusals_are limit r e)

-- ---- what a commit that landed, or that was refused, says of its quote

-- the quote is one made now, or not
pub made_now : (limit : ℕ) (r : Register) (q : Quote) → (q ≡ quote limit r q.asked) ⊎ (q ≢ quote limit r q.asked)
made_now limit r q = go (true_or_false (eq_quote q (quote limit r q.asked)))
  where
    go : (eq_quote q (quote limit r q.asked) ≡ true) ⊎ (eq_quote q (quote limit r q.asked) ≡ false) → (q ≡ quote limit r q.asked) ⊎ (q ≢ quote limit r q.asked)
    go (inl t) = inl (quote_one q (quote limit r q.asked) t)
    go (inr f) = inr (λ h. not_both _ (ap (eq_quote q) (sym h) ∙ quote_same q) f)

-- what is refused does not land
pub not_refused : (n : ℕ) (r : Register) → refused n ≢ landed r
not_refused n r e = let z : ◌≡◌ {A = ℕ} 0 1 = cc in omega arith

refused_is : (m n : ℕ) → refused m ≡ refused n → m ≡ n
refused_is m n e = cc

-- a commit that lands came with the quote made now, and lands its edge
pub commit_lands : (limit : ℕ) (r : Register) (q : Quote) (r' : Register) → commit limit r q ≡ landed r'
    → (q ≡ quote limit r q.asked) × (land_edge_within limit r q.asked ≡ landed r')
commit_lands limit r q r' h = go (made_now limit r q)
  where
    go : (q ≡ quote limit r q.asked) ⊎ (q ≢ quote limit r q.asked) → (q ≡ quote limit r q.asked) × (land_edge_within limit r q.asked ≡ landed r')
    go (inl e) = (e, sym (commit_same limit r q e) ∙ h)
    go (inr n) = absurd (not_refused 32 r' (sym (commit_differs limit r q n) ∙ h))

-- "32 the quote differs in any part from one made now": then, and only then
pub commit_32 : (limit : ℕ) (r : Register) (q : Quote) → commit limit r q ≡ refused 32 → q ≢ quote limit r q.asked
commit_32 limit r q h e = go (edge_refusal limit r q.asked) refl (sym (land_edge_by limit r q.asked) ∙ sym (commit_same limit r q e) ∙ h)
  where
    go : (o : Option ℕ) → edge_refusal limit r q.asked ≡ o → unless_refused r q.asked o ≡ refused 32 → ⊥
    go (some x) f k = (refusal_is limit r q.asked x f).not_32 (refused_is x 32 k)
    go none f k = not_refused 32 _ (sym k)

-- a commit's refusal is 32 or one of its edge
pub commit_refused : (limit : ℕ) (r : Register) (q : Quote) (x : ℕ) → commit limit r q ≡ refused x → (x ≢ 21) × (x ≢ 25)
commit_refused limit r q x h = go (made_now limit r q)
  where
    on : (o : Option ℕ) → edge_refusal limit r q.asked ≡ o → unless_refused r q.asked o ≡ refused x → (x ≢ 21) × (x ≢ 25)
    on (some y) f k =
        let own = refusal_is limit r q.asked y f in
        let i : y ≡ x = refused_is y x k in
        (λ z. own.not_21 (i ∙ z), λ z. own.not_25 (i ∙ z))
    on none f k = absurd (not_refused x _ (sym k))

    go : (q ≡ quote limit r q.asked) ⊎ (q ≢ quote limit r q.asked) → (x ≢ 21) × (x ≢ 25)
    go (inl e) = on (edge_refusal limit r q.asked) refl (sym (land_edge_by limit r q.asked) ∙ sym (commit_same limit r q e) ∙ h)
    go (inr n) =
        let i : 32 ≡ x = refused_is 32 x (sym (commit_differs limit r q n) ∙ h) in
        (λ z. omega arith, λ z. omega arith)
