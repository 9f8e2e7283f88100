-- The chains and rings with labels by falling lowest label: which they are, and that the search among them gives the one that find names.
use mathlib.Core.Path.{◌≡◌, refl, sym, ap, ◌∙◌}
use mathlib.Core.Logic.{◌≢◌, ◌⊎◌, inl, inr}
use Prim.Native.Nat.{ℕ, zero, suc, ◌+◌, ◌≤◌, ◌<◌}
use native.Mathlib.Omega.{arith}
use mathlib.Core.Bool.{Bool, true, false, not}
use mathlib.Core.Option.{Option, none, some}
use mathlib.Core.List.Memᴰ
use mathlib.Core.List.Memᴰ.{cases_cons as mem-cases}
use mathlib.Core.List.Memᴰ.{head as at_head}
use mathlib.Core.List.Memᴰ.{not-nil as mem-nil}
use mathlib.Core.List.Memᴰ.{tail as in_Tail}
use mathlib.Core.List.{List, [], ◌∷◌, map, Memᴰ as Mem}
use lib.ListN.{length}
use lib.Dec.{eqb, ltb}
use borrow.Author.Tests.{eq-eqb, eqb-true, eqb-false, ltb-true, ltb-false, ne_eqb}
use Rattle.model.specs.Basics.{count_from, up_to}
use Rattle.model.specs.Graph.{chain_of, edge_on_ring, is_regular, name_of}
use Rattle.model.specs.Register.{Register, label_of}
use Rattle.model.specs.Queries.{Reply, chain_at, find, found_at, refuses}
use Rattle.model.specs.Newest.{among, has, inner_labels, lowest_label, lowest_of, names_labelled, newest_first, chain_in, search, search_among}
use Rattle.model.specs.Labels.{vertex_on_ring}
use Rattle.model.specs.Series.{OwnChain}
use Rattle.model.proofs.Basics.Booleans.{and_intro, and_true, if_either, not_both, true_or_false}
use Rattle.model.proofs.Walks.Degree.{Proper, is_two}
use Rattle.model.proofs.Chains.Partition.{least_le, least_mem}
use Rattle.model.proofs.Chains.Exact.{chain_is_chain}
use Rattle.model.proofs.Chains.ExactRing.{ring_is_ring}
use Rattle.model.proofs.Chains.Own.{only_chain, own_chain_lem}
use Rattle.theory.proofs.Registers.Founded.{Founded}
use Rattle.theory.proofs.Registers.Facts.{LabelFacts}
use Rattle.theory.proofs.Registers.Answers.{find_none, find_own}

-- ---- a label among some

-- the test tells whether a label is among some
pub has_mem : (label : ℕ) (xs : List ℕ) → has label xs ≡ true → Mem label xs
unfolding has
has_mem label [] e = absurd (not_both false e refl)
has_mem label (x ∷ xs) e = go (eqb x label) refl (λ h. has_mem label xs h)
  where
    go : (b : Bool) → eqb x label ≡ b → (has label xs ≡ true → Mem label xs) → Mem label (x ∷ xs)
    go true q ih = at_head (sym (eqb-true x label q))
    go false q ih = in_Tail (ih (rw (q, has) at e))

pub mem_has : (label : ℕ) (xs : List ℕ) → Mem label xs → has label xs ≡ true
unfolding has
mem_has label [] m = absurd (mem-nil m)
mem_has label (x ∷ xs) m = go (eqb x label) refl (λ h. mem_has label xs h)
  where
    go : (b : Bool) → eqb x label ≡ b → (Mem label xs → has label xs ≡ true) → has label (x ∷ xs) ≡ true
    go true q ih = rw (q, has)
    go false q ih = rw (q, has) (ih (on (mem-cases m)))
      where
        on : (label ≡ x) ⊎ Mem label xs → Mem label xs
        on (inl e) = absurd (eqb-false x label q (sym e))
        on (inr h) = h

-- ---- the falling order

module _ (r : Register) where
  mem_among : (d : ℕ) (cs : List ℕ) (x : ℕ) → Mem x (among r d cs) → (x ≡ d) ⊎ Mem x cs
  unfolding among
  mem_among d [] x m = mem-cases m
  mem_among d (c ∷ cs) x m = go (ltb (lowest_label r c) (lowest_label r d)) refl (λ h. mem_among d cs x h)
    where
      go : (b : Bool) → ltb (lowest_label r c) (lowest_label r d) ≡ b → (Mem x (among r d cs) → (x ≡ d) ⊎ Mem x cs) → (x ≡ d) ⊎ Mem x (c ∷ cs)
      go true q ih = mem-cases (rw (q, among) at m)
      go false q ih = on (mem-cases (rw (q, among) at m))
        where
          behind : (x ≡ d) ⊎ Mem x cs → (x ≡ d) ⊎ Mem x (c ∷ cs)
          behind (inl e) = inl e
          behind (inr h) = inr (in_Tail h)

          on : (x ≡ c) ⊎ Mem x (among r d cs) → (x ≡ d) ⊎ Mem x (c ∷ cs)
          on (inl e) = inr (at_head e)
          on (inr h) = behind (ih h)

  among_mem : (d : ℕ) (cs : List ℕ) (x : ℕ) → (x ≡ d) ⊎ Mem x cs → Mem x (among r d cs)
  unfolding among
  among_mem d [] x (inl e) = at_head e
  among_mem d [] x (inr m) = absurd (mem-nil m)
  among_mem d (c ∷ cs) x m = go (ltb (lowest_label r c) (lowest_label r d)) refl m (λ h. among_mem d cs x h)
    where
      go : (b : Bool) → ltb (lowest_label r c) (lowest_label r d) ≡ b → (x ≡ d) ⊎ Mem x (c ∷ cs)
          → ((x ≡ d) ⊎ Mem x cs → Mem x (among r d cs)) → Mem x (among r d (c ∷ cs))
      go true q (inl e) ih = rw (q, among) (at_head e)
      go true q (inr h) ih = rw (q, among) (in_Tail h)
      go false q (inl e) ih = rw (q, among) (in_Tail (ih (inl e)))
      go false q (inr h) ih = rw (q, among) (on (mem-cases h))
        where
          on : (x ≡ c) ⊎ Mem x cs → Mem x (c ∷ among r d cs)
          on (inl e) = at_head e
          on (inr k) = in_Tail (ih (inr k))

  -- each has a lowest label above those behind it
  abbrev pub Falling : List ℕ → Type 0
  Falling [] = Unit {0}
  Falling (d ∷ ds) = ((c : ℕ) → Mem c ds → lowest_label r c < lowest_label r d) × Falling ds

  among_falls : (d : ℕ) (cs : List ℕ) → Falling cs → ((c : ℕ) → Mem c cs → lowest_label r c ≢ lowest_label r d) → Falling (among r d cs)
  unfolding among
  among_falls d [] f n = (λ c m. absurd (mem-nil m), tt)
  among_falls d (c ∷ cs) f n = go (ltb (lowest_label r c) (lowest_label r d)) refl (among_falls d cs f.1 (λ x m. n x (in_Tail m)))
    where
      go : (b : Bool) → ltb (lowest_label r c) (lowest_label r d) ≡ b → Falling (among r d cs) → Falling (among r d (c ∷ cs))
      go true q ih = rw (q, among) (λ x m. on x (mem-cases m), f)
        where
          on : (x : ℕ) → (x ≡ c) ⊎ Mem x cs → lowest_label r x < lowest_label r d
          on x (inl e) = rw e (ltb-true _ _ q)
          on x (inr h) = omega (arith, f.0 x h, ltb-true (lowest_label r c) (lowest_label r d) q)
      go false q ih = rw (q, among) (λ x m. on x (mem_among d cs x m), ih)
        where
          on : (x : ℕ) → (x ≡ d) ⊎ Mem x cs → lowest_label r x < lowest_label r c
          on x (inl e) = rw e (omega (arith, ltb-false (lowest_label r c) (lowest_label r d) q, n c (at_head refl)))
          on x (inr h) = f.0 x h

  -- the ones taken are those among the edges that name a chain or ring with labels
  pub newest_named : (ds : List ℕ) (x : ℕ) → Mem x (newest_first r ds) → Mem x ds × (names_labelled r x ≡ true)
  unfolding newest_first
  newest_named [] x m = absurd (mem-nil m)
  newest_named (d ∷ ds) x m = go (names_labelled r d) refl (λ h. newest_named ds x h)
    where
      go : (b : Bool) → names_labelled r d ≡ b → (Mem x (newest_first r ds) → Mem x ds × (names_labelled r x ≡ true)) → Mem x (d ∷ ds) × (names_labelled r x ≡ true)
      go true q ih = on (mem_among d (newest_first r ds) x (rw (q, newest_first) at m))
        where
          on : (x ≡ d) ⊎ Mem x (newest_first r ds) → Mem x (d ∷ ds) × (names_labelled r x ≡ true)
          on (inl e) = (at_head e, rw e q)
          on (inr h) = (in_Tail (ih h).0, (ih h).1)
      go false q ih = let h = ih (rw (q, newest_first) at m) in (in_Tail h.0, h.1)

  pub named_newest : (ds : List ℕ) (x : ℕ) → Mem x ds → names_labelled r x ≡ true → Mem x (newest_first r ds)
  unfolding newest_first
  named_newest [] x m t = absurd (mem-nil m)
  named_newest (d ∷ ds) x m t = go (names_labelled r d) refl (mem-cases m) (λ h. named_newest ds x h t)
    where
      go : (b : Bool) → names_labelled r d ≡ b → (x ≡ d) ⊎ Mem x ds → (Mem x ds → Mem x (newest_first r ds)) → Mem x (newest_first r (d ∷ ds))
      go true q (inl e) ih = rw (q, newest_first) (among_mem d (newest_first r ds) x (inl e))
      go true q (inr h) ih = rw (q, newest_first) (among_mem d (newest_first r ds) x (inr (ih h)))
      go false q (inl e) ih = absurd (not_both (names_labelled r d) (rw e at t) q)
      go false q (inr h) ih = rw (q, newest_first) (ih h)

  among_length : (d : ℕ) (cs : List ℕ) → length (among r d cs) ≡ suc (length cs)
  unfolding among
  among_length d [] = refl
  among_length d (c ∷ cs) = go (ltb (lowest_label r c) (lowest_label r d)) refl (among_length d cs)
    where
      go : (b : Bool) → ltb (lowest_label r c) (lowest_label r d) ≡ b → length (among r d cs) ≡ suc (length cs) → length (among r d (c ∷ cs)) ≡ suc (suc (length cs))
      go true q ih = rw (q, among)
      go false q ih = rw (q, among) (ap suc ih)

  -- no more are taken than there are edges
  pub newest_few : (ds : List ℕ) → length (newest_first r ds) ≤ length ds
  unfolding newest_first
  newest_few [] = omega arith
  newest_few (d ∷ ds) = go (names_labelled r d) refl (newest_few ds)
    where
      go : (b : Bool) → names_labelled r d ≡ b → length (newest_first r ds) ≤ length ds → length (newest_first r (d ∷ ds)) ≤ suc (length ds)
      go true q ih = rw (q, newest_first) (omega (arith, among_length d (newest_first r ds)))
      go false q ih = rw (q, newest_first) (omega arith)

  -- chains and rings that differ have different lowest labels
  abbrev Apart : Type 0
  Apart = (c d : ℕ) → c < length r.edges → d < length r.edges → names_labelled r c ≡ true → names_labelled r d ≡ true → lowest_label r c ≡ lowest_label r d → c ≡ d

  counted : (at n x : ℕ) → Mem x (count_from at n) → (at ≤ x) × (x < at + n)
  unfolding count_from
  counted at zero x m = absurd (mem-nil m)
  counted at (suc n) x m = go (mem-cases m) (λ h. counted (suc at) n x h)
    where
      go : (x ≡ at) ⊎ Mem x (count_from (suc at) n) → (Mem x (count_from (suc at) n) → (suc at ≤ x) × (x < suc at + n)) → (at ≤ x) × (x < at + suc n)
      go (inl e) ih = (omega arith, omega arith)
      go (inr h) ih = let k = ih h in (omega (arith, k.0), omega (arith, k.1))

  pub count_mem : (at n x : ℕ) → at ≤ x → x < at + n → Mem x (count_from at n)
  unfolding count_from
  count_mem at zero x a b = absurd (omega arith)
  count_mem at (suc n) x a b = go (true_or_false (eqb x at)) (λ h. count_mem (suc at) n x h (omega arith))
    where
      go : (eqb x at ≡ true) ⊎ (eqb x at ≡ false) → (suc at ≤ x → Mem x (count_from (suc at) n)) → Mem x (at ∷ count_from (suc at) n)
      go (inl e) ih = at_head (eqb-true x at e)
      go (inr e) ih = in_Tail (ih (omega (arith, eqb-false x at e)))

  newest_falls : Apart → (at n : ℕ) → at + n ≤ length r.edges → Falling (newest_first r (count_from at n))
  unfolding newest_first count_from
  newest_falls ap at zero h = tt
  newest_falls ap at (suc n) h = go (names_labelled r at) refl (newest_falls ap (suc at) n (omega arith))
    where
      go : (b : Bool) → names_labelled r at ≡ b → Falling (newest_first r (count_from (suc at) n)) → Falling (newest_first r (at ∷ count_from (suc at) n))
      go true q ih =
          rw (q, newest_first)
          (among_falls at (newest_first r (count_from (suc at) n)) ih (λ c m e.
          let k = newest_named (count_from (suc at) n) c m in
          let l = counted (suc at) n c k.0 in
          omega (arith, l.0, ap c at (omega (arith, l.1)) (omega arith) k.1 q e)))
      go false q ih = rw (q, newest_first) ih

-- ---- what is taken in a register

-- one that is taken: its name, and a vertex that wears its lowest label
pub record Taken (r : Register) (d : ℕ) : Type 0 where
  pub inside : d < length r.edges
  pub names : name_of r.edges d ≡ d
  pub vertex : ℕ
  pub in_it : Mem vertex (chain_of r.edges d).inner
  pub wears : label_of r vertex ≡ lowest_label r d

module _ (r : Register) (pr : Proper r.edges) where
  -- the vertices inside a chain or ring are regular
  pub inner_regular : (d v : ℕ) → d < length r.edges → Mem v (chain_of r.edges d).inner → is_regular r.edges v ≡ true
  inner_regular d v h m = go (true_or_false (edge_on_ring r.edges d))
    where
      go : (edge_on_ring r.edges d ≡ true) ⊎ (edge_on_ring r.edges d ≡ false) → is_regular r.edges v ≡ true
      go (inl t) = (ring_is_ring r.edges pr d h t).between v m
      go (inr f) = (chain_is_chain r.edges pr d h f).between v m

  -- a vertex of it has it for its chain
  pub own_is : (d v : ℕ) → d < length r.edges → name_of r.edges d ≡ d → Mem v (chain_of r.edges d).inner → d ≡ chain_at r v
  unfolding chain_at
  own_is d v h n m = only_chain r.edges pr v (inner_regular d v h m) d (record { inside = h; names = n; has = m })

  -- no vertex of the chain wears a lower label than its lowest
  pub lowest_most : (d v : ℕ) → Mem v (chain_of r.edges d).inner → lowest_label r d ≤ label_of r v
  unfolding lowest_label inner_labels lowest_of
  lowest_most d v m = go (map (label_of r) (chain_of r.edges d).inner) (Memᴰ.map (label_of r) m)
    where
      go : (xs : List ℕ) → Mem (label_of r v) xs → lowest_of xs ≤ label_of r v
      go [] k = absurd (mem-nil k)
      go (x ∷ xs) k = least_le x xs (label_of r v) k

  pub taken : (d : ℕ) → d < length r.edges → names_labelled r d ≡ true → Taken r d
  unfolding names_labelled lowest_label inner_labels lowest_of
  taken d h t =
      let k = and_true (eqb (name_of r.edges d) d) (not (eqb (length (inner_labels r d)) 0)) t in
      let w = go (map (label_of r) (chain_of r.edges d).inner) k.1 in
      let o = Memᴰ.of_map (label_of r) (chain_of r.edges d).inner w in
      record { inside = h; names = eqb-true _ _ k.0; vertex = o.0; in_it = o.1; wears = o.2 }
    where
      go : (xs : List ℕ) → not (eqb (length xs) 0) ≡ true → Mem (lowest_of xs) xs
      go [] e = absurd (not_both false e refl)
      go (x ∷ xs) e = least_mem x xs

  -- a chain or ring with a vertex inside is taken
  pub own_named : (d v : ℕ) → name_of r.edges d ≡ d → Mem v (chain_of r.edges d).inner → names_labelled r d ≡ true
  unfolding names_labelled inner_labels
  own_named d v n m = and_intro (eq-eqb _ _ n) (go (map (label_of r) (chain_of r.edges d).inner) (Memᴰ.map (label_of r) m))
    where
      go : (xs : List ℕ) → Mem (label_of r v) xs → not (eqb (length xs) 0) ≡ true
      go [] k = absurd (mem-nil k)
      go (x ∷ xs) k = rw (ne_eqb (length (x ∷ xs)) 0 (λ e. omega arith))

module _ (r : Register) (f : Founded r) (l : LabelFacts r) where
  pr : Proper r.edges
  pr = f.proper

  -- the chains and rings of a register that have labels, newest first
  abbrev pub newest : List ℕ
  newest = newest_first r (up_to (length r.edges))

  apart : (c d : ℕ) → c < length r.edges → d < length r.edges → names_labelled r c ≡ true → names_labelled r d ≡ true → lowest_label r c ≡ lowest_label r d → c ≡ d
  unfolding pr
  apart c d hc hd tc td e =
      let x : Taken r c = taken r pr c hc tc in
      let y : Taken r d = taken r pr d hd td in
      let u = is_two r.edges x.vertex (inner_regular r pr c x.vertex hc x.in_it) in
      let w = is_two r.edges y.vertex (inner_regular r pr d y.vertex hd y.in_it) in
      let same : x.vertex ≡ y.vertex = l.unique x.vertex y.vertex u w (x.wears ∙ e ∙ sym y.wears) in
      own_is r pr c x.vertex hc x.names x.in_it ∙ ap (chain_at r) same ∙ sym (own_is r pr d y.vertex hd y.names y.in_it)

  -- their lowest labels fall
  pub falling : Falling r newest
  unfolding up_to
  falling = newest_falls r apart 0 (length r.edges) (omega arith)

  -- each of them is one that is taken
  pub in_newest : (d : ℕ) → Mem d newest → Taken r d
  unfolding up_to pr
  in_newest d m =
      let k = newest_named r (up_to (length r.edges)) d m in
      taken r pr d (omega (arith, (counted r 0 (length r.edges) d k.0).1)) k.1

  -- the chain or ring of every regular vertex is there
  pub own_newest : (v : ℕ) → is_regular r.edges v ≡ true → Mem (chain_at r v) newest
  unfolding up_to pr chain_at
  own_newest v q =
      let o : OwnChain r.edges v (chain_at r v) = own_chain_lem r.edges pr v q in
      named_newest r (up_to (length r.edges)) (chain_at r v) (count_mem r 0 (length r.edges) (chain_at r v) (omega arith) (omega (arith, o.inside))) (own_named r pr (chain_at r v) v o.names o.has)

  -- ---- the search gives find's answer

  among_some : (label d : ℕ) (ds : List ℕ) → (search_among r label ds).holder ≡ some d → Mem d ds × (has label (inner_labels r d) ≡ true)
  unfolding search_among
  among_some label d [] e = absurd (no e)
    where
      no : none ≡ some d → ⊥
      no q = let z : ◌≡◌ {A = ℕ} 0 1 = cc in omega arith
  among_some label d (c ∷ ds) e = go (has label (inner_labels r c)) refl (λ h. among_some label d ds h)
    where
      go : (b : Bool) → has label (inner_labels r c) ≡ b → ((search_among r label ds).holder ≡ some d → Mem d ds × (has label (inner_labels r d) ≡ true))
          → Mem d (c ∷ ds) × (has label (inner_labels r d) ≡ true)
      go true q ih =
          let k : some c ≡ some d = rw (q, search_among) at e in
          let i : c ≡ d = cc in
          (at_head (sym i), rw i at q)
      go false q ih = let k = ih (rw (q, search_among) at e) in (in_Tail k.0, k.1)

  among_none : (label : ℕ) (ds : List ℕ) → (search_among r label ds).holder ≡ none → (d : ℕ) → Mem d ds → has label (inner_labels r d) ≡ false
  unfolding search_among
  among_none label [] e d m = absurd (mem-nil m)
  among_none label (c ∷ ds) e d m = go (has label (inner_labels r c)) refl (mem-cases m) (λ h k. among_none label ds h d k)
    where
      go : (b : Bool) → has label (inner_labels r c) ≡ b → (d ≡ c) ⊎ Mem d ds → ((search_among r label ds).holder ≡ none → Mem d ds → has label (inner_labels r d) ≡ false)
          → has label (inner_labels r d) ≡ false
      go true q k ih =
          let h : some c ≡ none = rw (q, search_among) at e in
          absurd (let z : ◌≡◌ {A = ℕ} 0 1 = cc in omega arith)
      go false q (inl i) ih = rw i q
      go false q (inr k) ih = ih (rw (q, search_among) at e) k

  found_chain : (v : ℕ) → chain_in (found_at r v) ≡ some (chain_at r v)
  unfolding found_at chain_in
  found_chain v = if_either (λ (a : Reply). chain_in a ≡ some (chain_at r v)) (vertex_on_ring r.edges v) _ _ refl refl

  -- where the search finds none, find refuses with 8
  pub search_none : (label : ℕ) → (search r label).holder ≡ none → find r label ≡ refuses 8
  unfolding search inner_labels pr chain_at
  search_none label e =
      find_none r label (λ v q w.
      let o : OwnChain r.edges v (chain_at r v) = own_chain_lem r.edges pr v q in
      let m : Mem label (inner_labels r (chain_at r v)) = rw (← w) (Memᴰ.map (label_of r) o.has) in
      not_both (has label (inner_labels r (chain_at r v))) (mem_has label (inner_labels r (chain_at r v)) m) (among_none label newest e (chain_at r v) (own_newest v q)))

  -- the search holds the chain or ring that find names
  pub search_finds : (label : ℕ) → chain_in (find r label) ≡ (search r label).holder
  unfolding search chain_in inner_labels pr chain_at
  search_finds label = go (search_among r label newest).holder refl
    where
      go : (o : Option ℕ) → (search_among r label newest).holder ≡ o → chain_in (find r label) ≡ (search_among r label newest).holder
      go (some d) e =
          let k = among_some label d newest e in
          let t : Taken r d = in_newest d k.0 in
          let o = Memᴰ.of_map (label_of r) (chain_of r.edges d).inner (has_mem label (inner_labels r d) k.1) in
          let own : d ≡ chain_at r o.0 = own_is r pr d o.0 t.inside t.names o.1 in
          rw e
          (ap (λ (x : ℕ). chain_in (find r x)) (sym o.2) ∙ ap chain_in (find_own r f l o.0 (inner_regular r pr d o.0 t.inside o.1)) ∙ found_chain o.0
          ∙ ap some (sym own))
      go none e = rw e (ap chain_in (search_none label e))
