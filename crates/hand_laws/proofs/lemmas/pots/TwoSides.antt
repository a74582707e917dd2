-- Two halves add up, the two sides of a pot get all of it, and the winners of a side all of theirs.
use Rattle.std.proofs.Common.{◌≡◌, ℕ, suc, ◌+◌, ◌-◌, ◌*◌, ◌/◌, ◌%◌, ◌<◌, ◌≤◌, List, [], ◌∷◌, refl, sym, ap, ◌∙◌, Bool, true, false, ◌==◌, ◌||◌, arith, length, min}
use Rattle.std.specs.Prelude.{if◌then◌else◌, sum_by}
use Rattle.std.proofs.lemmas.List.Sums.{sum_by-cons}
use Rattle.hand_laws.specs.Halves.{AreHalves, SharesHalves}
use Rattle.pot_layers.specs.Split.{IsOrder, Differ, given, side_share, high_half, low_half, is_among}
use Rattle.pot_layers.proofs.CallerLemmas.{halves}

-- the sum over the seats of an order, of what is the same for each of them
sum_same : (f g : ℕ → ℕ) (order : List ℕ) → ((seat : ℕ) → is_among seat order ≡ true → f seat ≡ g seat) → sum_by f order ≡ sum_by g order
sum_same f g [] same = refl
sum_same f g (s ∷ order) same =
    let here : f s ≡ g s = same s (let e : (s == s) ≡ true = grind arith in rw e refl) in
    let rest : sum_by f order ≡ sum_by g order = sum_same f g order (λ seat among. same seat (later (s == seat) seat among)) in
    sum_by-cons f s order ∙ (let both : f s + sum_by f order ≡ g s + sum_by g order = omega (arith, here, rest) in both) ∙ sym (sum_by-cons g s order)
  where
    later : (b : Bool) (seat : ℕ) → is_among seat order ≡ true → (b || is_among seat order) ≡ true
    later true seat among = refl
    later false seat among = among

-- a seat after another in an order gets what it gets without that one
behind : (each extra s : ℕ) (order : List ℕ) (seat : ℕ) → is_among s order ≡ false → is_among seat order ≡ true → given each extra (s ∷ order) seat ≡ given each (extra - 1) order seat
behind each extra s order seat out among = by (s == seat) refl
  where
    by : (b : Bool) → (s == seat) ≡ b → (if b then each + min extra 1 else given each (extra - 1) order seat) ≡ given each (extra - 1) order seat
    by true e = (let is : s ≡ seat = grind arith in let no : is_among seat order ≡ false = ap (λ q. is_among q order) (sym is) ∙ out in cc)
    by false e = refl

given_sum : (each extra : ℕ) (order : List ℕ) → Differ order → extra ≤ length order → sum_by (given each extra order) order ≡ length order * each + extra
given_sum each extra [] differ few = omega (arith, few)
given_sum each extra (s ∷ order) differ few =
    let first : given each extra (s ∷ order) s ≡ each + min extra 1 = (let e : (s == s) ≡ true = grind arith in rw e refl) in
    let same : sum_by (given each extra (s ∷ order)) order ≡ sum_by (given each (extra - 1) order) order = sum_same _ _ order (λ seat among. behind each extra s order seat differ.0 among) in
    let rest : sum_by (given each (extra - 1) order) order ≡ length order * each + (extra - 1) = given_sum each (extra - 1) order differ.1 (omega (arith, few)) in
    let whole = sum_by-cons (given each extra (s ∷ order)) s order in
    let more : suc (length order) * each ≡ each + length order * each = grind arith in
    omega (arith, first, same, rest, whole, more)

-- a side with winners is given out
side_sum : (units : ℕ) (order : List ℕ) → Differ order → 0 < length order → sum_by (side_share units order) order ≡ units
side_sum units order differ some =
    let parts : sum_by (given (units / length order) (units % length order) order) order ≡ length order * (units / length order) + units % length order = given_sum (units / length order) (units % length order) order differ (omega arith) in
    omega (arith, parts)

side_all : (units winners : ℕ) (order : List ℕ) → IsOrder winners order → (winners ≡ 0 → units ≡ 0) → sum_by (side_share units order) order ≡ units
side_all units winners [] is none = (let z : units ≡ 0 = none (is.none refl) in sym z)
side_all units winners (s ∷ order) is none = side_sum units (s ∷ order) is.once (omega arith)

pub shares_halves : (units high low : ℕ) (high_order low_order : List ℕ) → 0 < high → IsOrder high high_order → IsOrder low low_order → SharesHalves units low high_order low_order
shares_halves units high low high_order low_order some h l = record {
  whole = halves units low;
  not_less = λ lows. (let divided : (low == 0) ≡ false = grind arith in rw divided (omega arith));
  by_one = λ lows. (let divided : (low == 0) ≡ false = grind arith in rw divided (omega arith));
  nobody_low = λ none. (let all : (low == 0) ≡ true = grind arith in rw all refl);
  high_side = side_all (high_half units low) high high_order h (λ z. absurd (omega (arith, z, some)));
  low_side = side_all (low_half units low) low low_order l (λ z. rw z refl);
}

pub are_halves : (units : ℕ) → AreHalves units
are_halves units = record { whole = omega arith; not_less = omega arith; by_one = omega arith }
