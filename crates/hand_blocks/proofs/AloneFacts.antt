-- The one pot of a spot, as a mask of its hands.
use Rattle.std.proofs.Common.{◌≡◌, ℕ, zero, suc, ◌-◌, ◌*◌, ◌%◌, ◌<◌, ◌≤◌, ◌^◌, refl, ap, ◌∙◌, arith}
use Rattle.std.specs.Int.{bit_at}
use Rattle.std.proofs.Math.Pow.{pow_mono}
use Rattle.std.proofs.lemmas.Nat.{pow_pos}
use Rattle.std.proofs.lemmas.Nat.Bits.{bit_at_mask_inside}
use Rattle.report_sheet.specs.SpotLines.{every_hand}
use Rattle.showdown_tally.proofs.CallerLemmas.{hands_short}
use Rattle.card_sets.specs.PlayerSets.{hands_below, hands_of}

-- where each bit below n is set, every hand below n is among those of the mask
every_bit : (mask n : ℕ) → ((hand : ℕ) → hand < n → bit_at mask hand ≡ 1) → hands_below mask n ≡ every_hand n
every_bit mask zero set = refl
every_bit mask (suc n) set =
    let here : bit_at mask n ≡ 1 = set n (omega arith) in
    let before : hands_below mask n ≡ every_hand n = every_bit mask n (λ hand below. set hand (omega arith)) in
    rw (here, before) refl

-- a mask of 16 bits with as many bits set as there are hands has every hand
pub hands_of_full : (count n : ℕ) → count ≡ n → count ≤ 10 → hands_of (1 * 2 ^ count % 2 ^ 16 - 1) ≡ every_hand n
hands_of_full count n same few =
    let some : 0 < 2 ^ count = pow_pos count in
    let most : 2 ^ count ≤ 2 ^ 10 = pow_mono few in
    let mask : 1 * 2 ^ count % 2 ^ 16 - 1 ≡ 2 ^ count - 1 = omega arith in
    ap hands_of mask ∙ hands_short (2 ^ count - 1) count 10 (omega arith) few
    ∙ every_bit (2 ^ count - 1) count (λ hand below. bit_at_mask_inside 0 count hand (omega arith) below) ∙ ap every_hand same
