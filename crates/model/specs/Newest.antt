-- Document 02, S-3, "Search from the newest run": the search beneath find, and how many chains and rings it took.
use Rattle.std.specs.Prelude.{ℕ, suc, Bool, true, false, not, ◌&&◌, List, [], ◌∷◌, map, length, eqb, ltb}
use Rattle.std.proofs.Math.Option.{Option, none, some}
use Rattle.model.specs.Basics.{least, up_to}
use Rattle.model.specs.Graph.{chain_of, name_of}
use Rattle.model.specs.Register.{Register, label_of}
use Rattle.model.specs.Queries.{Reply, read, found, measured, listed, wrote, quoted, committed, opened, fetched, finished, reported, allotted, refuses}

-- the labels on the chain or ring named d
unfoldable pub inner_labels : Register → ℕ → List ℕ
inner_labels r d = map (label_of r) (chain_of r.edges d).inner

-- the lowest of some labels, 0 where there is none
unfoldable pub lowest_of : List ℕ → ℕ
lowest_of [] = 0
lowest_of (x ∷ xs) = least x xs

-- the lowest of them
unfoldable pub lowest_label : Register → ℕ → ℕ
lowest_label r d = lowest_of (inner_labels r d)

-- d at its place among chains that stand by falling lowest label
unfoldable pub among : Register → ℕ → List ℕ → List ℕ
among r d [] = d ∷ []
among r d (c ∷ cs) =
    elim (ltb (lowest_label r c) (lowest_label r d)) [ true ↦ d ∷ c ∷ cs | false ↦ c ∷ among r d cs ]

-- the edge names its chain or ring, and that has labels
unfoldable pub names_labelled : Register → ℕ → Bool
names_labelled r d = eqb (name_of r.edges d) d && not (eqb (length (inner_labels r d)) 0)

-- "the runs and rings with couplings by falling lowest tag": those that some edges name
unfoldable pub newest_first : Register → List ℕ → List ℕ
newest_first r [] = []
newest_first r (d ∷ ds) =
    elim (names_labelled r d) [ true ↦ among r d (newest_first r ds) | false ↦ newest_first r ds ]

-- the name of the one that holds the label, and "how many it took, exactly those"
pub record Searched : Type 0 where
  pub holder : Option ℕ
  pub taken : ℕ

unfoldable pub has : ℕ → List ℕ → Bool
has label [] = false
has label (x ∷ xs) = elim (eqb x label) [ true ↦ true | false ↦ has label xs ]

-- "up to the one that holds the tag, or all"
unfoldable pub search_among : Register → ℕ → List ℕ → Searched
search_among r label [] = record { holder = none; taken = 0 }
search_among r label (d ∷ ds) =
    elim (has label (inner_labels r d)) [
      | true ↦ record { holder = some d; taken = 1 }
      | false ↦ let s = search_among r label ds in record { holder = s.holder; taken = suc s.taken }
    ]

-- "Within find, .. take the runs and rings with couplings by falling lowest tag, up to the one that holds the tag, or all."
unfoldable pub search : Register → ℕ → Searched
search r label = search_among r label (newest_first r (up_to (length r.edges)))

-- the chain or ring that a reply names: "every find gives the answer it gave before", so this is the holder (`search_finds` in theorem 3)
unfoldable pub chain_in : Reply → Option ℕ
chain_in (read s) = none
chain_in (found name v low high) = some name
chain_in (measured l) = none
chain_in (listed n) = none
chain_in (wrote n) = none
chain_in (quoted q) = none
chain_in committed = none
chain_in (opened s) = none
chain_in (fetched ns s) = none
chain_in (finished s) = none
chain_in (reported n) = none
chain_in allotted = none
chain_in (refuses n) = none
