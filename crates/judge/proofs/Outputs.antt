-- The ways out of `expect_sheet` and of `verdict_line`, and that what is written in the end is the verdict.
use mathlib.Core.Path.{◌≡◌, refl, sym, ap, subst, ◌∙◌}
use Rattle.std.specs.Prelude.{Result, Ok}
use Prim.Native.Nat.{ℕ, ◌≤◌, ◌<◌}
use native.Mathlib.Omega.{arith}
use mathlib.Core.List.{List, [], ◌∷◌, ◌++◌}
use lib.ListN.{length, take, length-append}
use borrow.Author.Tests.{lt-ltb, le-ltb}
use Rattle.model.specs.Format.{Stop, whole, stopped, grow_list}
use Rattle.model.specs.Printing.{ascii, decimal, spaced, line, listing, stop_line}
use Rattle.model.specs.Judging.{agrees, wrong_line, compare_texts, judge}
use Rattle.theory.proofs.Judging.{refused_told, whole_judged}
use Rattle.io.specs.Counts.{IsPrefixLen as Counted}
use Rattle.streams.proofs.Input.{counted}
use Rattle.text.specs.Pages.{Page, page, write}
use Rattle.text.proofs.Decimal.{decimal_length}
use Rattle.text.proofs.PageLaws.{write_two, write_held}
use Rattle.text.proofs.LineLaws.{stop_length}
use Rattle.listing.specs.Listing.{room_bytes}
use Rattle.counters.specs.declared.refusals.Refusal.{Refusal}
use Rattle.judging.specs.Right.{RightText, listed, stops, right_of, as_right, size_of as rightSize}
use Rattle.judge.specs.Output.{Awaited, sheet, nothing, awaited, awaited_of, told, verdict_line, line_bytes}

-- what a page holds whose text fits
page_holds : {A : Type 0} (give : List ℕ → A) (xs out : List ℕ) (q : Page) (a : A) → q ≡ write xs (page out 0) → length xs ≤ length out → give xs ≡ a
    → Counted q.at q.slice × (give (take q.at q.slice) ≡ a)
page_holds give xs out q a e h f =
    let w = write_held xs out q e h in
    (counted q.at q.slice w.0, ap give w.1 ∙ f)

-- ---- from the list alone

-- a list that is too long: no sheet is awaited, and its line says so
pub too_long : (bs out word : List ℕ) (q : Page) → 65536 < length bs → room_bytes ≤ length out → word ≡ ascii "too long\n" → q ≡ write word (page out 0)
    → Counted q.at q.slice × (nothing (take q.at q.slice) ≡ awaited bs)
unfolding awaited ascii
too_long bs out word q h l w e =
    let n : length word ≡ 9 = rw w in
    page_holds nothing word out q (awaited bs) e (omega (arith, n)) (rw (lt-ltb 65536 (length bs) h) (ap nothing w))

-- what a right text is here
abbrev await : RightText → Awaited
await (listed right) = sheet right
await (stops k x) = nothing (stop_line (stopped k x))

await_is : (bs : List ℕ) → length bs ≤ 65536 → await (right_of (grow_list bs)) ≡ awaited bs
unfolding awaited awaited_of right_of
await_is bs h = rw (le-ltb 65536 (length bs) h) (go (grow_list bs).stop)
  where
    go : (s : Stop) → await (elim s [ whole ↦ listed (listing (grow_list bs)) | stopped k x ↦ stops k x ])
        ≡ elim s [ whole ↦ sheet (listing (grow_list bs)) | stopped k x ↦ nothing (stop_line (stopped k x)) ]
    go whole = refl
    go (stopped k x) = refl

module _ (bs : List ℕ) (short : length bs ≤ 65536) where
  -- a list that is read whole: its right text is the sheet awaited
  pub right_awaited : (right : List ℕ) → listed right ≡ right_of (grow_list bs) → sheet right ≡ awaited bs
  right_awaited right h = ap await h ∙ await_is bs short

  -- the same of the answer that gives it, whose bytes are counted
  pub sheet_awaited : (r : Result ℕ (ℕ × Refusal)) (n : ℕ) (xs : List ℕ) → r ≡ Ok n → Counted (rightSize r) xs × (as_right r xs ≡ right_of (grow_list bs))
      → Counted n xs × (sheet (take n xs) ≡ awaited bs)
  sheet_awaited r n xs e h =
      let g = subst (λ (z : Result ℕ (ℕ × Refusal)). Counted (rightSize z) xs × (as_right z xs ≡ right_of (grow_list bs))) e h in
      (g.0, right_awaited (take n xs) g.1)

  -- a list that stops: no sheet is awaited, and its line says where
  pub none_awaited : (k x : ℕ) (out : List ℕ) (q : Page) → stops k x ≡ right_of (grow_list bs)
      → k < 18446744073709551616 → x < 4294967296 → room_bytes ≤ length out → q ≡ write (stop_line (stopped k x)) (page out 0)
      → Counted q.at q.slice × (nothing (take q.at q.slice) ≡ awaited bs)
  none_awaited k x out q h hk hx l e =
      page_holds nothing _ out q (awaited bs) e (omega (arith, stop_length k x hk hx)) (ap await h ∙ await_is bs short)

-- ---- from the right text and the sheet

module _ (right text out : List ℕ) (long : line_bytes ≤ length out) where
  -- a sheet that agrees: its line says so
  pub line_agrees : (word : List ℕ) (q : Page) → agrees ≡ compare_texts right text → word ≡ ascii "agrees\n" → q ≡ write word (page out 0)
      → Counted q.at q.slice × (take q.at q.slice ≡ verdict_line (compare_texts right text))
  unfolding verdict_line ascii
  line_agrees word q v w e =
      let n : length word ≡ 7 = rw w in
      page_holds (λ xs. xs) word out q (verdict_line (compare_texts right text)) e (omega (arith, n)) (rw (← v) w)

  -- at most 5 bytes of the word, 20 digits and the line's end
  pub line_wrong : (n : ℕ) (word : List ℕ) (p q : Page) → wrong_line n ≡ compare_texts right text → n < 18446744073709551616 → word ≡ ascii "line "
      → p ≡ write word (page out 0) → q ≡ write (decimal n ++ (10 ∷ [])) p
      → Counted q.at q.slice × (take q.at q.slice ≡ verdict_line (compare_texts right text))
  unfolding verdict_line ascii line spaced
  line_wrong n word p q v h w e f =
      let m : length word ≡ 5 = rw w in
      let size = length-append word (decimal n ++ (10 ∷ [])) in
      let digits = length-append (decimal n) (10 ∷ []) in
      page_holds (λ xs. xs) (word ++ (decimal n ++ (10 ∷ []))) out q (verdict_line (compare_texts right text)) (write_two word _ (page out 0) p q e f)
      (omega (arith, m, size, digits, decimal_length 19 n (omega arith))) (rw (← v) (ap (λ (xs : List ℕ). xs ++ (decimal n ++ (10 ∷ []))) w))

-- ---- what is written in the end is the verdict

pub told_verdict : (bs text : List ℕ) → length bs ≤ 65536 → told bs text ≡ verdict_line (judge bs text)
unfolding told awaited awaited_of verdict_line
told_verdict bs text h = go (grow_list bs).stop refl
  where
    tell : Awaited → List ℕ
    tell a = elim a [ sheet right ↦ verdict_line (compare_texts right text) | nothing said ↦ said ]

    of : Stop → Awaited
    of s = elim s [ whole ↦ sheet (listing (grow_list bs)) | stopped k x ↦ nothing (stop_line (stopped k x)) ]

    short : awaited bs ≡ of (grow_list bs).stop
    short = rw (le-ltb 65536 (length bs) h)

    go : (s : Stop) → (grow_list bs).stop ≡ s → told bs text ≡ verdict_line (judge bs text)
    go whole e = ap tell (short ∙ ap of e) ∙ ap verdict_line (sym (whole_judged bs text e))
    go (stopped k x) e = ap tell (short ∙ ap of e) ∙ ap verdict_line (sym (refused_told bs text k x e))

pub told_long : (bs text : List ℕ) → 65536 < length bs → told bs text ≡ ascii "too long\n"
unfolding told awaited
told_long bs text h = rw (lt-ltb 65536 (length bs) h, told)
