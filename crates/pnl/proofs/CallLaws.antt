-- A call whole: a list that stops, and the answer of a question on the tables that a list leaves.
use Rattle.counters.specs.declared.numbers.Label.{Label}
use Rattle.std.specs.Prelude.{Option, Some, None}
use mathlib.Core.Path.{◌≡◌, sym, ap, ◌∙◌}
use Prim.Native.Nat.{ℕ}
use mathlib.Core.List.{List}
use mathlib.Core.Option.{some, some-injective, some-ne-none}
use lib.ListN.{get_or}
use lib.IntN.{ℤ, pos, neg_ℤ}
use Rattle.model.specs.Basics.{max_edges}
use Rattle.model.specs.Register.{Register}
use Rattle.model.specs.Format.{Stop, whole, stopped, grow_list}
use Rattle.model.specs.FromC.{Returned, from_c, returns_refusal, returns_reply}
use Rattle.model.specs.Queries.{Reply, find, find_at}
use Rattle.model.specs.Calls.{Answer, alone, answer, answers}
use Rattle.model.specs.Tables.{Tables, Counts, cleared, no_counts, stored_of, tables_of}
use Rattle.model.specs.Notions.{HeldOf}
use Rattle.theory.proofs.Series.Landings.{reachable_grown}
use Rattle.theory.proofs.Registers.OnlyHeld.{held_tables}
use Rattle.tables.specs.Meaning.{stored, tables}
use Rattle.counters.specs.Numbers.{as_label}
use Rattle.holders.specs.Finding.{find_in}
use Rattle.landing.specs.Records.{ReadingIn, reading_in, land_list_in}
use Rattle.landing.proofs.ListAgrees.{shown_read}
use Rattle.landing.proofs.Growing.{list_leaves}
use Rattle.questions.proofs.AnswerLaws.{find_answers}
use Rattle.pnl.specs.FromC.{returned}
use Rattle.pnl.specs.Questions.{asked}

-- ---- a list that stops, and one that is landed whole

module _ (bs : List ℕ) (s : Stop) (e : s ≡ (grow_list bs).stop) (question : Register → Reply) (slice : List ℕ) where
  -- a list that stops: its refusal, and nothing is written
  pub call_stops : (k x : ℕ) (v : ℤ) → s ≡ stopped k x → v ≡ neg_ℤ (pos x) → returned slice v ≡ from_c question bs slice
  unfolding from_c returns_refusal
  call_stops k x v f g = rw (sym e ∙ f, from_c, g)

  -- a list that lands: what the question answers on its register
  pub call_answers : (z : Returned) → s ≡ whole → z ≡ returns_reply (grow_list bs).register slice (question (grow_list bs).register) → z ≡ from_c question bs slice
  unfolding from_c
  call_answers z f q = rw (sym e ∙ f, from_c) q

-- ---- what the growing of a list says of it

module _ (bs : List ℕ) (t : Tables) (c : Counts) (s : Stop) (e : reading_in t c s ≡ land_list_in cleared no_counts max_edges bs) where
  left : reading_in t c s ≡ shown_read (grow_list bs)
  left = e ∙ list_leaves bs

  -- it stops as the definition says, and its tables hold the register that it leaves
  pub grown_stop : s ≡ (grow_list bs).stop
  grown_stop = ap (λ (d : ReadingIn). d.stop) left

  pub grown_register : HeldOf (stored t c) (grow_list bs).register
  unfolding stored_of
  grown_register = record { reachable = reachable_grown bs; stored_is = ap (λ (d : ReadingIn). stored d.tables d.counts) left }

-- ---- the queries

module _ (d s e l u lb : List ℕ) (c : Counts) (r : Register) (h : HeldOf (stored (tables d s e l u lb) c) r) (slice : List ℕ) (z : Returned) where
  -- what is found over the tables of a register is what the question answers
  pub find_question : (label : ℕ) (a : Reply) → a ≡ find_in (tables d s e l u lb) c.vertices c.edges label → z ≡ returns_reply r slice a
      → z ≡ returns_reply r slice (find r label)
  unfolding answer answers
  find_question label a p q =
      let k = find_answers (tables d s e l u lb) c label a p (alone r) h in
      q ∙ ap (returns_reply r slice) (ap (λ (x : Answer). x.reply) (sym k))

-- ---- the label that a question comes to

-- one that is given
pub asked_given : (x : Option Label) (label : ℕ) (r : Register) → as_label x ≡ some label → asked x r ≡ find r label
asked_given (Some l) label r e = ap (find r) (some-injective l.0 label e)
asked_given None label r e = absurd (some-ne-none label (sym e))

-- that of a vertex
pub asked_at : (d s e l u lb : List ℕ) (c : Counts) (r : Register) → HeldOf (stored (tables d s e l u lb) c) r → (v w label : ℕ) → w ≡ v → label ≡ get_or lb w 0
    → find r label ≡ find_at r v
unfolding find_at tables_of
asked_at d s e l u lb c r h v w label p q = rw (q, p, ap (λ (t : Tables). t.labels) (held_tables h))
