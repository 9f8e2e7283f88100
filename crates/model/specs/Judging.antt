-- Document 02, S-9: the verdict on a contractor's sheet, and what is claimed of it.
use Rattle.std.specs.Prelude.{◌≡◌, ◌≢◌, ℕ, zero, suc, ◌+◌, ◌<◌, true, false, List, [], ◌∷◌, get_or, eqb, if◌then◌else◌}
use Rattle.model.specs.Format.{whole, stopped, grow_list}
use Rattle.model.specs.Tables.{eq_list}
use Rattle.model.specs.Printing.{listing, printed}

-- a byte in front of the first of some lines
unfoldable pub ahead : ℕ → List (List ℕ) → List (List ℕ)
ahead b [] = (b ∷ []) ∷ []
ahead b (l ∷ ls) = (b ∷ l) ∷ ls

-- "such a sheet as text in the form of the printing program": its lines, each with its end byte, the byte 10. The last may lack it, and is
-- then another line than the right one: "a line lacking its end byte is wrong".
unfoldable pub split_lines : List ℕ → List (List ℕ)
split_lines [] = []
split_lines (b ∷ bs) = if eqb b 10 then (b ∷ []) ∷ split_lines bs else ahead b (split_lines bs)

-- what is said of a sheet: that it agrees, or its first wrong line; or of a refused list its record and its refusal
pub data Verdict : Type 0 where
  agrees : Verdict
  wrong_line : ℕ → Verdict
  not_judged : ℕ → ℕ → Verdict

-- ""agrees" exactly if every line is the right one in the right order, otherwise the first line that isn't, a missing or surplus line
-- included": the right lines from number k on, and the sheet's
unfoldable pub compare_lines : ℕ → List (List ℕ) → List (List ℕ) → Verdict
compare_lines k [] [] = agrees
compare_lines k [] (l ∷ ls) = wrong_line k
compare_lines k (w ∷ ws) [] = wrong_line k
compare_lines k (w ∷ ws) (l ∷ ls) = elim (eq_list w l) [ true ↦ compare_lines (k + 1) ws ls | false ↦ wrong_line k ]

-- "Lines count from 1": the right text, and the sheet's
unfoldable pub compare_texts : List ℕ → List ℕ → Verdict
compare_texts right text = compare_lines 1 (split_lines right) (split_lines text)

-- "Take a pipe list and such a sheet": the right text is the whole listing, so the head's line is line 1, and "Rings and volumes are
-- included". "A refused list gives its own refusal and no verdict on the sheet."
unfoldable pub judge : List ℕ → List ℕ → Verdict
judge bs text =
    let d = grow_list bs in
    elim d.stop [ whole ↦ compare_texts (listing d) text | stopped k x ↦ not_judged k x ]

-- ---- what is claimed of it

-- the line of this number, from 1; [] where there is none, for one that there is has a byte, if only its end
unfoldable pub line_of : List ℕ → ℕ → List ℕ
line_of text zero = []
line_of text (suc n) = get_or (split_lines text) n []

-- "the first line that isn't": line n is not the right one, and each before it is
pub record FirstWrong (right text : List ℕ) (n : ℕ) : Type 0 where
  pub before : (m : ℕ) → m < n → line_of text m ≡ line_of right m
  pub wrong : line_of text n ≢ line_of right n

-- each verdict is given exactly where it is right
pub record JudgeIsRight (bs text : List ℕ) : Type 0 where
  pub agrees_if : (grow_list bs).stop ≡ whole → text ≡ listing (grow_list bs) → judge bs text ≡ agrees
  pub agrees_only_if : judge bs text ≡ agrees → ((grow_list bs).stop ≡ whole) × (text ≡ listing (grow_list bs))
  pub wrong_if : (n : ℕ) → (grow_list bs).stop ≡ whole → FirstWrong (listing (grow_list bs)) text n → judge bs text ≡ wrong_line n
  pub wrong_only_if : (n : ℕ) → judge bs text ≡ wrong_line n → ((grow_list bs).stop ≡ whole) × FirstWrong (listing (grow_list bs)) text n
  pub refused_if : (k x : ℕ) → (grow_list bs).stop ≡ stopped k x → judge bs text ≡ not_judged k x
  pub refused_only_if : (k x : ℕ) → judge bs text ≡ not_judged k x → (grow_list bs).stop ≡ stopped k x

-- "A sheet printed by our own program from the same list must agree."
abbrev pub OwnAgrees : List ℕ → Type 0
OwnAgrees bs = (grow_list bs).stop ≡ whole → judge bs (printed bs) ≡ agrees
