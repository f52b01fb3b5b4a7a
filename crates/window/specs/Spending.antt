-- A span, and its ticks used by each server job that runs: what the functions of `spending` compute.
use Rattle.std.specs.Prelude.{◌&&◌, cond, List, ℕ, zero, suc, ◌-◌, ◌%◌, min, ltb, get_or, set}
use Rattle.window.specs.Entries.{slots}

-- the first of three instants, and the ticks from t to it; at least 1
abbrev pub first_of : (release boundary asked : ℕ) → ℕ
first_of release boundary asked = min (min release boundary) asked

abbrev pub ticks_to : (t release boundary asked : ℕ) → ℕ
ticks_to t release boundary asked =
    let to : ℕ = first_of release boundary asked in
    cond (ltb t to) (to - t) 1

-- the place in `left` of the r-th that runs
abbrev pub place_at : List ℕ → ℕ → ℕ
place_at at r = get_or at r 0 % slots

abbrev pub lesser : ℕ → ℕ → ℕ
lesser x least = cond (ltb 0 x && ltb x least) x least

-- the least budget left of the first m that run, or `most`; 0 is passed over
unfoldable pub least_left : (left at : List ℕ) → (most m : ℕ) → ℕ
least_left left at most zero = most
least_left left at most (suc r) = lesser (get_or left (place_at at r) 0) (least_left left at most r)

-- a budget left, d ticks later
abbrev pub less_by : (x d : ℕ) → ℕ
less_by x d = x - d

-- d ticks used by each of the first m that run
unfoldable pub spent : (left at : List ℕ) → (d m : ℕ) → List ℕ
spent left at d zero = left
spent left at d (suc r) = set (spent left at d r) (place_at at r) (less_by (get_or (spent left at d r) (place_at at r) 0) d)
