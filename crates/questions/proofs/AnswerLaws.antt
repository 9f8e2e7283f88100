-- What find and sheet compute over the tables of a register is what they are defined to answer.
use mathlib.Core.Path.{◌≡◌, refl, sym, ap, ◌∙◌}
use Prim.Native.Nat.{ℕ, ◌-◌, ◌*◌, ◌≤◌, ◌<◌}
use native.Mathlib.Omega.{arith}
use mathlib.Core.Bool.{Bool, true, false}
use mathlib.Core.List.{List, []}
use lib.ListN.{length, get_or, replicate}
use lib.Dec.{ltb}
use borrow.Author.Tests.{ltb-false}
use Rattle.model.specs.Basics.{max_edges, max_vertices, in_front, row_size}
use Rattle.model.specs.Register.{Register}
use Rattle.model.specs.Queries.{Reply, concat, find, find_at, refuses, sheet, sheet_numbers}
use Rattle.model.specs.Tables.{Tables, Counts}
use Rattle.model.specs.Calls.{Answer, finding_at, answer, answers, fills, finding, sheeting}
use Rattle.model.specs.Notions.{HeldOf}
use Rattle.model.proofs.Chains.Sheet.{sheet_length}
use Rattle.theory.proofs.Registers.Answers.{find_not_landed}
use Rattle.theory.proofs.Registers.Labelled.{label_facts}
use Rattle.theory.proofs.Registers.OnlyHeld.{held_counts, held_tables}
use Rattle.theory.proofs.Registers.Reachable.{founded}
use Rattle.tables.specs.Meaning.{stored}
use Rattle.text.proofs.PageLaws.{write_front}
use Rattle.chains.specs.Chains.{names_in, sheet_in}
use Rattle.holders.specs.Finding.{find_at_in, find_in}
use Rattle.agreement.proofs.Finding.{find_agrees, find_at_agrees}
use Rattle.agreement.proofs.Sheeting.{names_counted, sheet_agrees}
use Rattle.questions.specs.Answering.{answered, sheeted_in}
use Rattle.questions.proofs.Answers.{Answers}
use Rattle.questions.proofs.TableLaws.{find_at_law}

-- what is found over the tables of a register is answered, by a label and by a vertex
pub find_answers : (t : Tables) (c : Counts) (label : ℕ) (a : Reply) → a ≡ find_in t c.vertices c.edges label → Answers (finding label) t c [] a
unfolding answer answers
find_answers t c label a h s k =
    let r = s.register in
    let f : find_in t c.vertices c.edges label ≡ find r label = rw (held_tables k, held_counts k) at (find_agrees r k.reachable label) in
    rw (h, f)

pub find_at_answers : (t : Tables) (c : Counts) (v : ℕ) (a : Reply) → a ≡ find_at_in t c.vertices c.edges v → Answers (finding_at v) t c [] a
unfolding answer answers
find_at_answers t c v a h s k =
    let r = s.register in
    let f : find_at_in t c.vertices c.edges v ≡ find_at r v = rw (held_tables k, held_counts k) at (find_at_agrees r k.reachable v) in
    rw (h, f)

-- A number of any size as a vertex: through the label of the vertex that it is, or above the largest vertex.
module _ (t : Tables) (c : Counts) (r : Register) (h : HeldOf (stored t c) r) where
  -- what is found by the label of the vertex is found by the vertex
  pub find_through : (v w label : ℕ) (a : Reply) → w ≡ v → label ≡ get_or t.labels w 0 → a ≡ find_in t c.vertices c.edges label → a ≡ find_at r v
  find_through v w label a e f p =
      let k : find_at_in t c.vertices c.edges v ≡ find_at r v = rw (held_tables h, held_counts h) at (find_at_agrees r h.reachable v) in
      find_at_law t c.vertices c.edges v label a (f ∙ ap (λ (x : ℕ). get_or t.labels x 0) e) p ∙ k

  -- a number above every vertex: 8
  pub find_beyond : (v : ℕ) → max_vertices - 1 < v → refuses 8 ≡ find_at r v
  find_beyond v l =
      let k = founded r h.reachable in
      sym (find_not_landed r k (label_facts r h.reachable) v (omega (arith, k.few)))

numbers_are : (r : Register) → concat (sheet r) ≡ sheet_numbers r
unfolding sheet_numbers
numbers_are r = refl

-- the sheet put over the tables of a register is answered
pub sheet_answers : (t : Tables) (c : Counts) (m n : ℕ) (counting marks xs ys : List ℕ) (a : Reply) → max_edges ≤ m → max_edges ≤ n
    → counting ≡ replicate m 0 → marks ≡ replicate n 0 → answered ys a ≡ sheeted_in t c counting marks xs → Answers (sheeting xs) t c ys a
unfolding answer fills sheeted_in
sheet_answers t c m n counting marks xs ys a l o p q h s k = go (ltb (length xs) (row_size * length (sheet r))) refl
  where
    r : Register
    r = s.register

    rows_are : sheet_in t.degrees t.sides t.ends t.lengths t.volumes c.edges marks ≡ sheet r
    rows_are = rw (← q, held_tables k, held_counts k) at (sheet_agrees r k.reachable n o)

    count : length (names_in t.degrees t.sides t.ends c.edges counting) ≡ length (sheet r)
    count = rw (← p, held_tables k, held_counts k) at (names_counted r k.reachable m l)

    go : (b : Bool) → ltb (length xs) (row_size * length (sheet r)) ≡ b
        → answer (sheeting xs) s ≡ record { slice = ys; reply = a }
    go true e =
        let q = rw (count, e) at h in
        rw (sheet_length r, e, ap (λ (x : Answer). x.slice) q, ap (λ (x : Answer). x.reply) q)
    go false e =
        let q = rw (count, rows_are, numbers_are r, e) at h in
        let fits : length (sheet_numbers r) ≤ length xs = omega (arith, sheet_length r, ltb-false (length xs) (row_size * length (sheet r)) e) in
        let front : ys ≡ in_front (sheet_numbers r) xs = ap (λ (x : Answer). x.slice) q ∙ write_front (sheet_numbers r) xs _ _ fits refl in
        rw (sheet_length r, e, front, ap (λ (x : Answer). x.reply) q)
