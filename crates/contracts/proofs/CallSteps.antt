-- Demand 3 speaks of the functions: the contract of each asks nothing and ensures one equation, with `step` at its call. A line says so
-- of each call, by computation, in every model of the machine.
use mathlib.Core.Path.{◌≡◌, refl}
use mathlib.Core.List.{List, []}
use Prim.Native.Nat.{ℕ}
use seplogic.Ra.Ura.{Ura}
use base.Logic.{SProp, emp}
use prog.Memory.{Memory}
use prog.Routine.{Routine}
use types.Logic.{Logic}
use contract.Monad.{Fun, fact}
use contract.Lifetimes.{Lfts}
use denote.Ref.{Bor, MutBor}
use denote.Triple.Entry.{Args, Res}
use denote.Triple.Clauses.{AtExit, ClausesAt, Ended}
use Rattle.model.specs.Queries.{Reply}
use Rattle.model.specs.Tables.{Tables}
use Rattle.nursery.specs.Calls.{HouseCall, commits, fetches, finds, finds_at, grows, in_house, lands, measures, opens, quotes, removes, sets_shares, sheets, step, writes}
use Rattle.counters.specs.Answers.{list_reply}
use Rattle.counters.specs.Quotes.{as_quote, commit_reply, quote_reply}
use Rattle.tables.specs.Meaning.{tables}
use Rattle.heads.specs.declared.heads.Heads.{Heads}
use Rattle.heads.specs.Meaning.{lent, outcome}
use Rattle.questions.specs.Meaning.{found_reply, listed_reply, measured_reply, written_reply}
use Rattle.opening.specs.Meaning.{as_sheet, fetched_reply, opened_reply}
use Rattle.settling.specs.Meaning.{removed_reply}
use Rattle.sharing.specs.Meaning.{shares_reply}
use Rattle.growing.specs.contracts.grow.grow as grow
use Rattle.growing.specs.contracts.land.land as land
use Rattle.growing.specs.contracts.commit.commit as commit
use Rattle.finding.specs.contracts.find.find as find
use Rattle.finding.specs.contracts.find.find_at as find_at
use Rattle.measuring.specs.contracts.distance.distance as distance
use Rattle.measuring.specs.contracts.quote.quote as quote
use Rattle.sheeting.specs.contracts.sheet.sheet as sheet
use Rattle.sheeting.specs.contracts.write.write as write
use Rattle.paging.specs.contracts.opened.open as open_sheet
use Rattle.paging.specs.contracts.opened.fetch as fetch_line
use Rattle.sharing.specs.contracts.shares.set_shares as set_shares
use Rattle.taking.specs.contracts.remove.remove as remove

-- ---- the parameters of a call

-- a slice of numbers, lent to be read, and lent to be written
abbrev Slice : Type 0
Slice = Bor (List ℕ)

abbrev MutSlice : Type 0
MutSlice = MutBor (List ℕ)

-- six lent slices, then others
abbrev Six : Type 0 → Type 0 → Type 0
Six S R = S × (S × (S × (S × (S × (S × R)))))

-- the tables, the heads, the shares, the scratch tables, the house, then the query's own
abbrev Query : Type 0 → Type 0
Query R = Six Slice (Heads × (Slice × Six MutSlice (ℕ × R)))

-- what six slices hold, by what one of them holds
abbrev tables_by : {S R : Type 0} → (S → List ℕ) → Six S R → Tables
tables_by held a = tables (held a.0) (held a.1.0) (held a.1.1.0) (held a.1.1.1.0) (held a.1.1.1.1.0) (held a.1.1.1.1.1.0)

abbrev tables_read : {R : Type 0} → Six Slice R → Tables
tables_read a = tables_by (λ s. s.now) a

abbrev tables_in : {R : Type 0} → Six MutSlice R → Tables
tables_in a = tables_by (λ s. s.now) a

-- what stands behind them
abbrev past : {S R : Type 0} → Six S R → R
past a = a.1.1.1.1.1.1

-- a query's own parameters
abbrev own : {R : Type 0} → Query R → R
own a = (past (past a).1.1).1

-- the parameters of a landing: the heads, the tables, the shares, the scratch tables, the house, then its own
abbrev Lands : Type 0 → Type 0
Lands R = MutBor Heads × Six MutSlice (Slice × Six MutSlice (ℕ × R))

-- its own
abbrev lands_own : {R : Type 0} → Lands R → R
lands_own a = (past (past a.1).1).1

-- the parameters of setting the shares: the tables, the heads, the shares, the scratch tables, then the shares that are asked for
abbrev Shares : Type 0 → Type 0
Shares R = Six Slice (Heads × (MutSlice × Six MutSlice R))

-- ---- the contracts

module _ {M : Type 1} {𝓤 : Ura M} (𝓛 : Logic 𝓤) (mem : Memory → SProp 𝓤) (run : Routine → Fun 𝓤) where
  -- a contract without `requires`
  abbrev Ensures : (T : Ended) (κs : Lfts T.signature.lifetimes) → (Res T.signature κs → AtExit T κs → SProp 𝓤) → ClausesAt 𝓤 T κs
  Ensures T κs ensures = record { ghost = Unit {0}; requires = λ g. emp 𝓤; ensures = λ g r z. ensures r z }

  -- with the arguments a, and z at its end, a query leaves and answers what `step` has at call c for its house
  abbrev Steps : {R S : Type 0} → Query R → Query S → List ℕ → Reply → HouseCall → SProp 𝓤
  Steps a z slice reply c =
      let before = tables_read a in
      let heads = (past a).0 in
      let shares = (past a).1.0.now in
      fact 𝓤 (outcome before heads shares (tables_in (past z).1.1) slice reply
      ≡ step (in_house (past (past a).1.1).0 c) (lent before heads shares (tables_in (past a).1.1)))

  pub find_steps : (κs : Lfts 13) (a : Args find.signature κs)
      → find.clauses 𝓛 mem run κs a ≡ Ensures find.ended κs (λ r z. Steps a z [] (found_reply r) (finds (own a).0.0))
  find_steps κs a = refl

  pub find_at_steps : (κs : Lfts 13) (a : Args find_at.signature κs)
      → find_at.clauses 𝓛 mem run κs a ≡ Ensures find_at.ended κs (λ r z. Steps a z [] (found_reply r) (finds_at (own a).0.0))
  find_at_steps κs a = refl

  pub sheet_steps : (κs : Lfts 14) (a : Args sheet.signature κs)
      → sheet.clauses 𝓛 mem run κs a ≡ Ensures sheet.ended κs (λ r z. Steps a z (own z).0.now (listed_reply r) (sheets (own a).0.now))
  sheet_steps κs a = refl

  pub write_steps : (κs : Lfts 14) (a : Args write.signature κs)
      → write.clauses 𝓛 mem run κs a ≡ Ensures write.ended κs (λ r z. Steps a z (own z).0.now (written_reply r) (writes (own a).0.now))
  write_steps κs a = refl

  pub distance_steps : (κs : Lfts 13) (a : Args distance.signature κs)
      → distance.clauses 𝓛 mem run κs a
      ≡ Ensures distance.ended κs (λ r z. Steps a z [] (measured_reply r) (measures (own a).0.0 (own a).1.0.0))
  distance_steps κs a = refl

  pub quote_steps : (κs : Lfts 13) (a : Args quote.signature κs)
      → quote.clauses 𝓛 mem run κs a
      ≡ Ensures quote.ended κs (λ r z. Steps a z [] (quote_reply r)
      (quotes (record { first = (own a).0; second = (own a).1.0; len = (own a).1.1.0; volume = (own a).1.1.1.0 })))
  quote_steps κs a = refl

  pub open_steps : (κs : Lfts 13) (a : Args open_sheet.signature κs)
      → open_sheet.clauses 𝓛 mem run κs a ≡ Ensures open_sheet.ended κs (λ r z. Steps a z [] (opened_reply r) opens)
  open_steps κs a = refl

  pub fetch_steps : (κs : Lfts 13) (a : Args fetch_line.signature κs)
      → fetch_line.clauses 𝓛 mem run κs a ≡ Ensures fetch_line.ended κs (λ r z. Steps a z [] (fetched_reply r) (fetches (as_sheet (own a).0)))
  fetch_steps κs a = refl

  -- with the arguments a, and z at its end, a landing leaves and answers what `step` has at call c for its house
  abbrev LandSteps : {R S : Type 0} → Lands R → Lands S → Reply → HouseCall → SProp 𝓤
  LandSteps a z reply c =
      let shares = (past a.1).0.now in
      fact 𝓤 (outcome (tables_in z.1) z.0.now shares (tables_in (past z.1).1) [] reply
      ≡ step (in_house (past (past a.1).1).0 c) (lent (tables_in a.1) a.0.now shares (tables_in (past a.1).1)))

  pub grow_steps : (κs : Lfts 15) (a : Args grow.signature κs)
      → grow.clauses 𝓛 mem run κs a ≡ Ensures grow.ended κs (λ r z. LandSteps a z (list_reply r) (grows (lands_own a).0.now))
  grow_steps κs a = refl

  pub land_steps : (κs : Lfts 15) (a : Args land.signature κs)
      → land.clauses 𝓛 mem run κs a ≡ Ensures land.ended κs (λ r z. LandSteps a z (list_reply r) (lands (lands_own a).0.now))
  land_steps κs a = refl

  pub commit_steps : (κs : Lfts 14) (a : Args commit.signature κs)
      → commit.clauses 𝓛 mem run κs a ≡ Ensures commit.ended κs (λ r z. LandSteps a z (commit_reply r) (commits (as_quote (lands_own a).0)))
  commit_steps κs a = refl

  -- a removal has a slice, and the pipe's number before it
  pub remove_steps : (κs : Lfts 15) (a : Args remove.signature κs)
      → remove.clauses 𝓛 mem run κs a ≡ Ensures remove.ended κs (λ r z.
      let shares = (past a.1).0.now in
      fact 𝓤 (outcome (tables_in z.1) z.0.now shares (tables_in (past z.1).1) (lands_own z).1.0.now (removed_reply r)
      ≡ step (in_house (past (past a.1).1).0 (removes (lands_own a).0 (lands_own a).1.0.now)) (lent (tables_in a.1) a.0.now shares (tables_in (past a.1).1))))
  remove_steps κs a = refl

  -- the shares
  pub shares_steps : (κs : Lfts 14) (a : Args set_shares.signature κs)
      → set_shares.clauses 𝓛 mem run κs a ≡ Ensures set_shares.ended κs (λ r z.
      let before = tables_read a in
      let heads = (past a).0 in
      fact 𝓤 (outcome before heads (past z).1.0.now (tables_in (past z).1.1) [] (shares_reply r)
      ≡ step (sets_shares (past (past a).1.1).0.now) (lent before heads (past a).1.0.now (tables_in (past a).1.1))))
  shares_steps κs a = refl
