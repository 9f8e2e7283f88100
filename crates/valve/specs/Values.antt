-- Values of S-13 that tell its readings apart, as one table: V or V + 1, records of 0 ml, exactly the sum, the 1,441st record, the order of
-- the refusals.
use Rattle.std.specs.Prelude.{◌≡◌, List, [], ◌∷◌, replicate}
use Rattle.valve.specs.Numbers.{slots}
use Rattle.valve.specs.Window.{Record, record_of, Window, window, empty}
use Rattle.valve.specs.Valve.{taken, recipe_is, older, refuses, at_valve}
use Rattle.valve.specs.Calls.{arrives, asks}
use Rattle.valve.specs.Series.{Call, arrival, series}

-- the newest first: recipe 7 with 10 ml, recipe 8 with none, recipe 9 with 5 ml
unfoldable pub three : List Record
three = record_of 7 10 ∷ record_of 8 0 ∷ record_of 9 5 ∷ []

-- the same as arrivals, the oldest first, and the window that they leave
unfoldable pub arriving : List Call
arriving = arrival (record_of 9 5) ∷ arrival (record_of 8 0) ∷ arrival (record_of 7 10) ∷ []

unfoldable pub arrived : Window
arrived = series arriving empty

-- recipe 9 with 5 ml, and behind it 1,439 or 1,440 records of recipe 7 with 1 ml, or of recipe 8 with none
unfoldable pub lasting : List Call
lasting = arrival (record_of 9 5) ∷ replicate 1439 (arrival (record_of 7 1))

unfoldable pub pushing : List Call
pushing = arrival (record_of 9 5) ∷ replicate 1440 (arrival (record_of 7 1))

unfoldable pub standing : List Call
standing = arrival (record_of 9 5) ∷ replicate 1439 (arrival (record_of 8 0))

unfoldable pub stopping : List Call
stopping = arrival (record_of 9 5) ∷ replicate 1440 (arrival (record_of 8 0))

-- a window full of records of 1,000,000 ml, which has gone round
unfoldable pub full : Window
full = window (replicate slots 3) (replicate slots 1000000) 5 1440000000

pub record Table : Type 0 where
  -- the newest record holds the ml numbers 1 to 10, the one of 0 ml none, the oldest 11 to 15; V = 0 asks for number 1
  pub first : at_valve 0 three ≡ recipe_is 7
  pub tenth : at_valve 9 three ≡ recipe_is 7
  pub eleventh : at_valve 10 three ≡ recipe_is 9
  pub fifteenth : at_valve 14 three ≡ recipe_is 9
  -- exactly the sum is older
  pub past : at_valve 15 three ≡ older
  -- the same of a window after three arrivals
  pub sum : arrived.sum ≡ 15
  pub asked : (asks 10 arrived).reply ≡ recipe_is 9
  pub asked_last : (asks 14 arrived).reply ≡ recipe_is 9
  pub asked_past : (asks 15 arrived).reply ≡ older
  pub asked_far : (asks 4294967295 arrived).reply ≡ older
  -- the 1,440th record keeps the first, the 1,441st takes its slot, and its ml leave the sum
  pub lasts : (asks 1439 (series lasting empty)).reply ≡ recipe_is 9
  pub lasts_sum : (series lasting empty).sum ≡ 1444
  pub pushed_out : (asks 1440 (series pushing empty)).reply ≡ older
  pub pushed_sum : (series pushing empty).sum ≡ 1440
  pub pushed_oldest : (asks 1439 (series pushing empty)).reply ≡ recipe_is 7
  -- records of 0 ml keep their minute: the 1,440th of them pushes out too
  pub stands : (asks 4 (series standing empty)).reply ≡ recipe_is 9
  pub stood_out : (asks 0 (series stopping empty)).reply ≡ older
  -- the largest record, and 40
  pub largest : (arrives (record_of 1 1000000) arrived).reply ≡ taken
  pub too_much : (arrives (record_of 1 1000001) arrived).reply ≡ refuses 40
  -- the last ml of a full window
  pub full_asked : (asks 1439999999 full).reply ≡ recipe_is 3
  -- 21: a wrong sum; a slot past the last; a record above the bound, before 40
  pub wrong_sum : (asks 0 (window (replicate slots 0) (replicate slots 0) 0 1)).reply ≡ refuses 21
  pub no_slot : (asks 0 (window (replicate slots 0) (replicate slots 0) 1440 0)).reply ≡ refuses 21
  pub above : (arrives (record_of 1 1000001) (window (replicate slots 0) (1000001 ∷ replicate 1439 0) 1 1000001)).reply ≡ refuses 21
  -- 25: a table of the wrong size, before 21
  pub short : (asks 0 (window (replicate 1439 0) (replicate slots 0) 0 1)).reply ≡ refuses 25
