-- The search over the tables, and find over them, answer what the definitions answer.
use mathlib.Core.Path.{◌≡◌, refl, sym, ap, ◌∙◌, subst}
use Prim.Native.Nat.{ℕ}
use mathlib.Core.Bool.{true}
use mathlib.Core.Option.{Option, none, some}
use lib.ListN.{length}
use Rattle.model.specs.Graph.{is_regular}
use Rattle.model.specs.Register.{Register, label_of}
use Rattle.model.specs.Queries.{Reply, chain_at, find, find_at, found_at}
use Rattle.model.specs.Newest.{search}
use Rattle.model.specs.Tables.{counts_of, tables_of}
use Rattle.model.specs.Notions.{Reachable}
use Rattle.holders.specs.Newest.{Sought, search_in}
use Rattle.holders.specs.Finding.{find_at_in, find_in}
use Rattle.theory.proofs.Registers.Labelled.{label_facts}
use Rattle.theory.proofs.Registers.Answers.{find_own}
use Rattle.theory.proofs.Registers.Newest.{search_none}
use Rattle.agreement.proofs.Registers.{founded}
use Rattle.theory.proofs.Registers.Newest.{falling, in_newest, newest, own_newest}
use Rattle.agreement.proofs.Newest.{Agrees, Told, all_left, search_over, searched}

-- the search over the tables agrees with that of model
pub search_agrees : (r : Register) (g : Reachable r) (label : ℕ) → Agrees r g label (search_over r g label) (search r label)
unfolding search
search_agrees r g label =
    let o = founded r g in
    let facts = label_facts r g in
    searched r g label (newest r o facts) (falling r o facts) (in_newest r o facts) (all_left r g) (λ v q. own_newest r o facts v q)

-- find by the search over the tables is find
pub find_agrees : (r : Register) → Reachable r → (label : ℕ) → find_in (tables_of r) (counts_of r).vertices (counts_of r).edges label ≡ find r label
unfolding find_in counts_of
find_agrees r g label = go s.found refl a.found_is
  where
    s : Sought
    s = search_in (tables_of r).degrees (tables_of r).sides (tables_of r).ends (tables_of r).lengths (tables_of r).labels r.vertices (length r.edges) label

    a : Agrees r g label s (search r label)
    a = search_agrees r g label

    go : (o : Option Reply) → s.found ≡ o → Told r g label s.found (search r label).holder → find_in (tables_of r) (counts_of r).vertices (counts_of r).edges label ≡ find r label
    go none e w =
        let h : (search r label).holder ≡ none = rw e at w in
        rw (e, find_in) (sym (search_none r (founded r g) (label_facts r g) label h))
    go (some b) e w =
        let h : (v : ℕ) × ((is_regular r.edges v ≡ true) × ((label_of r v ≡ label) × ((b ≡ found_at r v) × ((search r label).holder ≡ some (chain_at r v))))) = subst (λ (o : Option Reply). Told r g label o (search r label).holder) e w in
        let told = h.1.1 in
        rw (e, find_in) (told.1.0 ∙ sym (find_own r (founded r g) (label_facts r g) h.0 h.1.0) ∙ ap (find r) told.0)

-- so it is by a vertex
pub find_at_agrees : (r : Register) → Reachable r → (v : ℕ) → find_at_in (tables_of r) (counts_of r).vertices (counts_of r).edges v ≡ find_at r v
unfolding find_at_in find_at tables_of
find_at_agrees r g v = find_agrees r g (label_of r v)
