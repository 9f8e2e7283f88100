-- Document 02, S-9: each verdict is given exactly where it is right, and our own print agrees.
use Rattle.std.specs.Prelude.{if◌then◌else◌}
use mathlib.Core.Path.{◌≡◌, refl, sym, ap, subst, ◌∙◌}
use mathlib.Core.Logic.{◌≢◌}
use Prim.Native.Nat.{ℕ, zero, suc, ◌+◌, ◌<◌}
use native.Mathlib.Omega.{arith}
use native.Mathlib.Decide.{dec_lt}
use mathlib.Core.Bool.{Bool, true, false}
use mathlib.Core.List.{List, [], ◌∷◌}
use lib.ListN.{length, get_or}
use lib.Dec.{eqb}
use borrow.Author.Tests.{le-ltb}
use Rattle.model.specs.Format.{Stop, whole, stopped, grow_list}
use Rattle.model.specs.Tables.{eq_list}
use Rattle.model.specs.Queries.{concat}
use Rattle.model.specs.Printing.{listing, printed}
use Rattle.model.specs.Judging.{Verdict, agrees, wrong_line, not_judged, ahead, split_lines, compare_lines, compare_texts, judge, line_of, FirstWrong, JudgeIsRight, OwnAgrees}
use Rattle.model.proofs.Registers.Bytes.{whole_short}
use Rattle.theory.proofs.Registers.Equality.{eq_list_refl, eq_list_true}

-- ---- the lines of a text

ahead_join : (b : ℕ) (ls : List (List ℕ)) → concat (ahead b ls) ≡ b ∷ concat ls
unfolding ahead concat
ahead_join b [] = refl
ahead_join b (l ∷ ls) = refl

-- the lines of a text, one behind the other, are the text
pub lines_join : (bs : List ℕ) → concat (split_lines bs) ≡ bs
unfolding split_lines concat
lines_join [] = refl
lines_join (b ∷ bs) = go (eqb b 10) (lines_join bs)
  where
    go : (t : Bool) → concat (split_lines bs) ≡ bs → concat (if t then (b ∷ []) ∷ split_lines bs else ahead b (split_lines bs)) ≡ b ∷ bs
    go true e = ap (λ (xs : List ℕ). b ∷ xs) e
    go false e = ahead_join b (split_lines bs) ∙ ap (λ (xs : List ℕ). b ∷ xs) e

-- no line is empty: each has a byte, if only its end
abbrev pub Full : List (List ℕ) → Type 0
Full [] = Unit {0}
Full (l ∷ ls) = (l ≢ []) × Full ls

cons_full : (b : ℕ) (l : List ℕ) → b ∷ l ≢ []
cons_full b l e = let z : suc (length l) ≡ 0 = ap length e in omega arith

ahead_full : (b : ℕ) (ls : List (List ℕ)) → Full ls → Full (ahead b ls)
unfolding ahead
ahead_full b [] f = (cons_full b [], tt)
ahead_full b (l ∷ ls) f = (cons_full b l, f.1)

-- no line of a text is empty
pub lines_full : (bs : List ℕ) → Full (split_lines bs)
unfolding split_lines
lines_full [] = tt
lines_full (b ∷ bs) = go (eqb b 10) (lines_full bs)
  where
    go : (t : Bool) → Full (split_lines bs) → Full (if t then (b ∷ []) ∷ split_lines bs else ahead b (split_lines bs))
    go true f = (cons_full b [], f)
    go false f = ahead_full b (split_lines bs) f

-- ---- the first line that differs, in lists of lines, from 0; behind the last line stands []

record FirstAt (ws ls : List (List ℕ)) (i : ℕ) : Type 0 where
  pub before : (j : ℕ) → j < i → get_or ws j [] ≡ get_or ls j []
  pub there : get_or ws i [] ≢ get_or ls i []

first_here : (ws ls : List (List ℕ)) → get_or ws 0 [] ≢ get_or ls 0 [] → FirstAt ws ls 0
first_here ws ls h = record { before = λ j l. absurd (omega arith); there = h }

first_next : (w l : List ℕ) (ws ls : List (List ℕ)) (i : ℕ) → w ≡ l → FirstAt ws ls i → FirstAt (w ∷ ws) (l ∷ ls) (suc i)
first_next w l ws ls i e f = record { before = go; there = f.there }
  where
    go : (j : ℕ) → j < suc i → get_or (w ∷ ws) j [] ≡ get_or (l ∷ ls) j []
    go zero h = e
    go (suc j) h = f.before j (omega arith)

one_first : {ws ls : List (List ℕ)} (i j : ℕ) → FirstAt ws ls i → FirstAt ws ls j → i ≡ j
one_first i j f g = go (dec_lt i j) (dec_lt j i)
  where
    go : Dec (i < j) → Dec (j < i) → i ≡ j
    go (yes l) d = absurd (f.there (g.before i l))
    go (no l) (yes m) = absurd (g.there (f.before j m))
    go (no l) (no m) = omega arith

-- what a verdict says, of lines from number k on
abbrev Says : ℕ → List (List ℕ) → List (List ℕ) → Verdict → Type 0
Says k ws ls agrees = ws ≡ ls
Says k ws ls (wrong_line n) = (i : ℕ) × ((n ≡ k + i) × FirstAt ws ls i)
Says k ws ls (not_judged r x) = ⊥

says_next : (k : ℕ) (w l : List ℕ) (ws ls : List (List ℕ)) (v : Verdict) → w ≡ l → Says (k + 1) ws ls v → Says k (w ∷ ws) (l ∷ ls) v
says_next k w l ws ls agrees e s = λ i. e i ∷ s i
says_next k w l ws ls (wrong_line n) e s = (suc s.0, (omega (arith, s.1.0), first_next w l ws ls s.0 e s.1.1))
says_next k w l ws ls (not_judged r x) e s = s

compare_says : (k : ℕ) (ws ls : List (List ℕ)) → Full ws → Full ls → Says k ws ls (compare_lines k ws ls)
unfolding compare_lines
compare_says k [] [] f g = refl
compare_says k [] (l ∷ ls) f g = (0, (omega arith, first_here [] (l ∷ ls) (λ e. g.0 (sym e))))
compare_says k (w ∷ ws) [] f g = (0, (omega arith, first_here (w ∷ ws) [] f.0))
compare_says k (w ∷ ws) (l ∷ ls) f g = go (eq_list w l) refl (compare_says (k + 1) ws ls f.1 g.1)
  where
    go : (t : Bool) → eq_list w l ≡ t → Says (k + 1) ws ls (compare_lines (k + 1) ws ls)
        → Says k (w ∷ ws) (l ∷ ls) (elim t [ true ↦ compare_lines (k + 1) ws ls | false ↦ wrong_line k ])
    go true e s = says_next k w l ws ls (compare_lines (k + 1) ws ls) (eq_list_true w l e) s
    go false e s = (0, (omega arith, first_here (w ∷ ws) (l ∷ ls) (λ q. differ e q)))
      where
        differ : eq_list w l ≡ false → w ≡ l → ⊥
        differ e q = absurd (let t : eq_list w l ≡ true = rw q (eq_list_refl l) in let z : ◌≡◌ {A = ℕ} 0 1 = cc in omega arith)

-- ---- two texts

texts_says : (right text : List ℕ) → Says 1 (split_lines right) (split_lines text) (compare_texts right text)
unfolding compare_texts
texts_says right text = compare_says 1 (split_lines right) (split_lines text) (lines_full right) (lines_full text)

said : (right text : List ℕ) (v : Verdict) → compare_texts right text ≡ v → Says 1 (split_lines right) (split_lines text) v
said right text v e = subst (λ (w : Verdict). Says 1 (split_lines right) (split_lines text) w) e (texts_says right text)

-- a number that is said is that of the first wrong line
first_wrong : (right text : List ℕ) (n : ℕ) → compare_texts right text ≡ wrong_line n → FirstWrong right text n
unfolding line_of
first_wrong right text n e = go n (said right text (wrong_line n) e)
  where
    go : (m : ℕ) → Says 1 (split_lines right) (split_lines text) (wrong_line m) → FirstWrong right text m
    go zero s = absurd (omega (arith, s.1.0))
    go (suc i) s = record { before = before; wrong = λ q. s.1.1.there (sym (rw same at q)) }
      where
        same : i ≡ s.0
        same = omega (arith, s.1.0)

        before : (j : ℕ) → j < suc i → line_of text j ≡ line_of right j
        before zero l = refl
        before (suc j) l = sym (s.1.1.before j (omega (arith, same)))

-- and the first wrong line's number is said
only_first : (right text : List ℕ) (n : ℕ) → FirstWrong right text n → compare_texts right text ≡ wrong_line n
unfolding line_of
only_first right text zero f = absurd (f.wrong refl)
only_first right text (suc i) f = go (compare_texts right text) (texts_says right text)
  where
    first : FirstAt (split_lines right) (split_lines text) i
    first = record { before = λ j l. sym (f.before (suc j) (omega arith)); there = λ q. f.wrong (sym q) }

    go : (v : Verdict) → Says 1 (split_lines right) (split_lines text) v → v ≡ wrong_line (suc i)
    go agrees s = absurd (first.there (ap (λ (ls : List (List ℕ)). get_or ls i []) s))
    go (wrong_line m) s = ap wrong_line (omega (arith, s.1.0, one_first s.0 i s.1.1 first))
    go (not_judged r x) s = absurd s

-- texts that agree are equal
agrees_same : (right text : List ℕ) → compare_texts right text ≡ agrees → right ≡ text
agrees_same right text e = sym (lines_join right) ∙ ap concat (said right text agrees e) ∙ lines_join text

lines_agree : (k : ℕ) (ls : List (List ℕ)) → compare_lines k ls ls ≡ agrees
unfolding compare_lines
lines_agree k [] = refl
lines_agree k (l ∷ ls) = rw (eq_list_refl l, compare_lines) (lines_agree (k + 1) ls)

-- a text agrees with itself
pub same_agrees : (text : List ℕ) → compare_texts text text ≡ agrees
unfolding compare_texts
same_agrees text = lines_agree 1 (split_lines text)

not_judged_lem : (right text : List ℕ) (k x : ℕ) → compare_texts right text ≢ not_judged k x
not_judged_lem right text k x e = said right text (not_judged k x) e

-- ---- a list and a sheet

-- of a list that stops, no text is judged, and the verdict says where
pub refused_told : (bs text : List ℕ) (k x : ℕ) → (grow_list bs).stop ≡ stopped k x → judge bs text ≡ not_judged k x
unfolding judge
refused_told bs text k x e = rw (e, judge)

-- of a list that is read whole, the text is compared with its listing
pub whole_judged : (bs text : List ℕ) → (grow_list bs).stop ≡ whole → judge bs text ≡ compare_texts (listing (grow_list bs)) text
unfolding judge
whole_judged bs text e =
    ap (λ (s : Stop). elim s [ whole ↦ compare_texts (listing (grow_list bs)) text | stopped k x ↦ not_judged k x ]) e

agrees_not_refused : (k x : ℕ) → not_judged k x ≢ agrees
agrees_not_refused k x e = let z : ◌≡◌ {A = ℕ} 0 1 = cc in omega arith

wrong_not_refused : (k x n : ℕ) → not_judged k x ≢ wrong_line n
wrong_not_refused k x n e = let z : ◌≡◌ {A = ℕ} 0 1 = cc in omega arith

same_stop : (k x n y : ℕ) → not_judged n y ≡ not_judged k x → stopped n y ≡ stopped k x
same_stop k x n y e = cc

pub judge_is_right : (bs text : List ℕ) → JudgeIsRight bs text
judge_is_right bs text =
    record {
      agrees_if = λ w e. whole_judged bs text w ∙ subst (λ (t : List ℕ). compare_texts right t ≡ agrees) (sym e) (same_agrees right);
      agrees_only_if = λ e. agreed (grow_list bs).stop refl e;
      wrong_if = λ n w f. whole_judged bs text w ∙ only_first right text n f;
      wrong_only_if = λ n e. wronged n (grow_list bs).stop refl e;
      refused_if = λ k x e. refused_told bs text k x e;
      refused_only_if = λ k x e. told k x (grow_list bs).stop refl e;
    }
  where
    right : List ℕ
    right = listing (grow_list bs)

    agreed : (s : Stop) → (grow_list bs).stop ≡ s → judge bs text ≡ agrees → ((grow_list bs).stop ≡ whole) × (text ≡ right)
    agreed whole w e = (w, sym (agrees_same right text (sym (whole_judged bs text w) ∙ e)))
    agreed (stopped k x) w e = absurd (agrees_not_refused k x (sym (refused_told bs text k x w) ∙ e))

    wronged : (n : ℕ) (s : Stop) → (grow_list bs).stop ≡ s → judge bs text ≡ wrong_line n → ((grow_list bs).stop ≡ whole) × FirstWrong right text n
    wronged n whole w e = (w, first_wrong right text n (sym (whole_judged bs text w) ∙ e))
    wronged n (stopped k x) w e = absurd (wrong_not_refused k x n (sym (refused_told bs text k x w) ∙ e))

    told : (k x : ℕ) (s : Stop) → (grow_list bs).stop ≡ s → judge bs text ≡ not_judged k x → (grow_list bs).stop ≡ stopped k x
    told k x whole w e = absurd (not_judged_lem right text k x (sym (whole_judged bs text w) ∙ e))
    told k x (stopped n y) w e = w ∙ same_stop k x n y (sym (refused_told bs text n y w) ∙ e)

-- ---- our own print: a list that is read whole is never too long for the program

pub own_agrees : (bs : List ℕ) → OwnAgrees bs
unfolding printed
own_agrees bs w =
    let short = whole_short bs w in
    rw (le-ltb 65536 (length bs) (omega (arith, short))) ((judge_is_right bs (listing (grow_list bs))).agrees_if w refl)
