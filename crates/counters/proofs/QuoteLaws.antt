-- The derived `==` of two quotes is the definition's: enums are compared by their tags there, and by the papers' numbers here.
use Rattle.std.specs.Prelude.{ℕ, Bool, true, false, ◌&&◌, eqb, if◌then◌else◌, Result, Ok, Err}
use mathlib.Core.Path.{◌≡◌, refl, sym, ap, ◌∙◌}
use native.Mathlib.Decide.{ℕ_discrete}
use borrow.Author.Tests.{eq-eqb, ne_eqb}
use denote.Enum.Bare.{Bare, sameb, true_same, false_same}
use denote.Enum.Declared.{Declared}
use Rattle.model.specs.Register.{eq_edge, eq_terms, eq_quote}
use Rattle.counters.specs.declared.refusals.Refusal.{Refusal}
use Rattle.counters.specs.declared.refusals.Refusal.TheVariants.{NoMark, Version, Cut, UnknownKind, NotLanded, SameVertex, Length, NotRegular, ShortSlice, NotGrown, TooManyVertices, TooManyEdges, WrongSize, Volume, OtherQuote, Beyond, OverLimit, OutOfPlace, NotRemovable, Ended}
use Rattle.counters.specs.declared.quotes.QuotedCase.{QuotedCase}
use Rattle.counters.specs.declared.quotes.QuotedCase.TheVariants.{NewRun, Extended, Merged, SplitExtended, Split, SplitTwice, Ring}
use Rattle.counters.specs.declared.quotes.Offer.{Offer}
use Rattle.counters.specs.declared.quotes.Quote.{Quote}
use Rattle.counters.specs.contracts.refusals.Refusal as refusal
use Rattle.counters.specs.contracts.quotes.QuotedCase as case
use Rattle.counters.specs.contracts.quotes.QuotePartialEq as quotes
use Rattle.counters.specs.contracts.quotes.OfferPartialEq as offers
use Rattle.counters.specs.contracts.refusals.RefusalPartialEq as refusals
use Rattle.counters.specs.Refusals.{number_of}
use Rattle.counters.specs.Quotes.{number_of_case, as_terms, as_quote}
use Rattle.std.specs.Result.{result_eq}

-- where a number tells the variant, tags and numbers are the same or not together
numbers_tell : (D : Declared) → Bare D.parts → (number : D.D → ℕ) (variant : ℕ → D.D) → ((x : D.D) → variant (number x) ≡ x)
    → (x y : D.D) → sameb D x y ≡ eqb (number x) (number y)
numbers_tell D bare number variant back x y =
    elim (ℕ_discrete (number x) (number y)) [
      | yes e ↦ true_same D x y (sym (back x) ∙ ap variant e ∙ back y) ∙ sym (eq-eqb _ _ e)
      | no f ↦ false_same D bare x y (λ e. f (ap number e)) ∙ sym (ne_eqb _ _ f)
    ]

-- the refusal of a number
refusal_of : ℕ → Refusal
refusal_of n =
    if eqb n 1 then NoMark else
    if eqb n 2 then Version else
    if eqb n 3 then Cut else
    if eqb n 4 then UnknownKind else
    if eqb n 5 then NotLanded else
    if eqb n 6 then SameVertex else
    if eqb n 7 then Length else
    if eqb n 8 then NotRegular else
    if eqb n 9 then ShortSlice else
    if eqb n 21 then NotGrown else
    if eqb n 22 then TooManyVertices else
    if eqb n 23 then TooManyEdges else
    if eqb n 25 then WrongSize else
    if eqb n 31 then Volume else
    if eqb n 32 then OtherQuote else
    if eqb n 33 then Beyond else
    if eqb n 36 then OverLimit else
    if eqb n 37 then OutOfPlace else
    if eqb n 38 then NotRemovable else
    Ended

-- the case of a number
case_of : ℕ → QuotedCase
case_of n =
    if eqb n 1 then NewRun else
    if eqb n 2 then Extended else
    if eqb n 3 then Merged else
    if eqb n 4 then SplitExtended else
    if eqb n 5 then Split else
    if eqb n 6 then SplitTwice else
    Ring

pub refusals_tell : (x y : Refusal) → refusals.TheImpl.eq-value.it x y ≡ eqb (number_of x) (number_of y)
unfolding refusal_of
refusals_tell = numbers_tell refusal.the_type tt number_of refusal_of
    (elim [
      | NoMark ↦ refl
      | Version ↦ refl
      | Cut ↦ refl
      | UnknownKind ↦ refl
      | NotLanded ↦ refl
      | SameVertex ↦ refl
      | Length ↦ refl
      | NotRegular ↦ refl
      | ShortSlice ↦ refl
      | NotGrown ↦ refl
      | TooManyVertices ↦ refl
      | TooManyEdges ↦ refl
      | WrongSize ↦ refl
      | Volume ↦ refl
      | OtherQuote ↦ refl
      | Beyond ↦ refl
      | OverLimit ↦ refl
      | OutOfPlace ↦ refl
      | NotRemovable ↦ refl
      | Ended ↦ refl
    ])

cases_tell : (x y : QuotedCase) → sameb case.the_type x y ≡ eqb (number_of_case x) (number_of_case y)
unfolding case_of
cases_tell = numbers_tell case.the_type tt number_of_case case_of
    (elim [
      | NewRun ↦ refl
      | Extended ↦ refl
      | Merged ↦ refl
      | SplitExtended ↦ refl
      | Split ↦ refl
      | SplitTwice ↦ refl
      | Ring ↦ refl
    ])

terms_tell : (s t : Result Offer Refusal) → result_eq offers.TheImpl.eq-value.it refusals.TheImpl.eq-value.it s t ≡ eq_terms (as_terms s) (as_terms t)
unfolding eq_terms
terms_tell (Ok o) (Ok p) = ap (λ (b : Bool). b && eqb o.relabellings p.relabellings) (cases_tell o.case p.case)
terms_tell (Ok o) (Err y) = refl
terms_tell (Err x) (Ok p) = refl
terms_tell (Err x) (Err y) = refusals_tell x y

-- seven tests, from the left or from the right
seven : (a b c d e f g : Bool) → (a && (b && (c && (d && (e && (f && g)))))) ≡ (a && b && c && d && e && f && g)
seven false b c d e f g = refl
seven true false c d e f g = refl
seven true true false d e f g = refl
seven true true true false e f g = refl
seven true true true true false f g = refl
seven true true true true true false g = refl
seven true true true true true true g = refl

pub quotes_tell : (a b : Quote) → quotes.TheImpl.eq-value.it a b ≡ eq_quote (as_quote a) (as_quote b)
unfolding eq_quote eq_edge
quotes_tell a b =
    rw (terms_tell a.terms b.terms) (seven (eqb a.first b.first) (eqb a.second b.second) (eqb a.length b.length) (eqb a.volume b.volume) _ (eqb a.vertices b.vertices) (eqb a.edges b.edges))
