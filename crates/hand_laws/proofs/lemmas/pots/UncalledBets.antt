-- What nobody called may come back, and then nobody alone has most: `law_what_is_uncalled_comes_back`.
use mathlib.Core.Bool.{true≢false}
use Rattle.std.proofs.Common.{◌≡◌, ◌≢◌, ℕ, zero, suc, ◌+◌, ◌-◌, ◌<◌, ◌≤◌, ◌==◌, ◌&&◌, ◌||◌, Bool, true, false, List, [], ◌∷◌, max, Option, Some, None, Contains, length, inl, inr, ◌⊎◌, refl, sym, ap, subst, ◌∙◌, arith}
use Rattle.std.specs.Prelude.{nat_lt, not, slice_index_or, if◌then◌else◌}
use Rattle.pot_layers.specs.declared.paid.Paid.{Paid}
use Rattle.pot_layers.specs.Uncalled.{alone_in, is_reached, rival, uncalled}
use Rattle.betting_replay.specs.Returns.{hand_sums, is_return, return_fits, street_sums}
use Rattle.betting_replay.specs.Table.{ReplayState}
use Rattle.hand_laws.specs.ReturnLaws.{IsMatched, IsReachedBy, NobodyIsLeftAlone, OthersMatch, UncalledComesBack}

itself : (seat units : ℕ) → is_return (Some (seat, units)) seat units ≡ true
itself seat units = search arith

pub comes_back : UncalledComesBack
unfolding return_fits
comes_back t seat units e = rw (e, itself seat units) refl

-- a player in a list
here : (p : Paid) (ps : List Paid) → Contains (p ∷ ps) p
here p ps = (zero, omega arith, refl)

behind : (p q : Paid) (ps : List Paid) → Contains ps q → Contains (p ∷ ps) q
behind p q ps at = (let l = at.1 in (suc at.0, omega (arith, l), at.2))

apart : (a b : ℕ) → (a == b) ≡ false → a ≢ b
apart a b e same = let equal : (a == b) ≡ true = grind (arith, same) in true≢false (sym equal ∙ e)

-- where no other seat reaches a sum each has less
lower_of : (p : Paid) (seat live : ℕ) → (not (p.seat == seat) && not (nat_lt p.live live)) ≡ false → p.seat ≢ seat → p.live < live
lower_of p seat live h other = by (p.seat == seat) refl (nat_lt p.live live) refl h
  where
    by : (b : Bool) → (p.seat == seat) ≡ b → (c : Bool) → nat_lt p.live live ≡ c → (not b && not c) ≡ false → p.live < live
    by true e c d h = let same : p.seat ≡ seat = grind arith in absurd (other same)
    by false e true d h = grind arith
    by false e false d h = cc

both_false : (a b : Bool) → (a || b) ≡ false → (a ≡ false) × (b ≡ false)
both_false true b h = cc
both_false false b h = (refl, h)

less_than : (all : List Paid) (seat live : ℕ) (q : Paid) (k : ℕ) → is_reached all seat live ≡ false → k < length all → slice_index_or all k q ≡ q → q.seat ≢ seat → q.live < live
less_than [] seat live q k h l e other = absurd (omega arith)
less_than (p ∷ all) seat live q zero h l e other =
    let first = (both_false (not (p.seat == seat) && not (nat_lt p.live live)) (is_reached all seat live) h).0 in
    subst (λ (x : Paid). x.seat ≢ seat → x.live < live) e (lower_of p seat live first) other
less_than (p ∷ all) seat live q (suc k) h l e other =
    let later = (both_false (not (p.seat == seat) && not (nat_lt p.live live)) (is_reached all seat live) h).1 in
    less_than all seat live q k later (omega (arith, l)) e other

-- and where one does, it is another with as much or more
abbrev Reaches : List Paid → ℕ → ℕ → Type 0
Reaches all seat live = (other : Paid) × Contains all other × (other.seat ≢ seat) × (live ≤ other.live)

reached_by : (all : List Paid) (seat live : ℕ) → is_reached all seat live ≡ true → Reaches all seat live
reached_by [] seat live h = cc
reached_by (p ∷ all) seat live h = by (p.seat == seat) refl (nat_lt p.live live) refl h (reached_by all seat live)
  where
    further : Reaches all seat live → Reaches (p ∷ all) seat live
    further r = (r.0, behind p r.0 all r.1, r.2, r.3)

    by : (b : Bool) → (p.seat == seat) ≡ b → (c : Bool) → nat_lt p.live live ≡ c → ((not b && not c) || is_reached all seat live) ≡ true
        → (is_reached all seat live ≡ true → Reaches all seat live) → Reaches (p ∷ all) seat live
    by true e c d h go = further (go h)
    by false e true d h go = further (go h)
    by false e false d h go = (p, here p all, apart p.seat seat e, grind arith)

-- the rival sum is no less than another's, and another's or nothing
rival_most : (all : List Paid) (seat : ℕ) (q : Paid) (k : ℕ) → k < length all → slice_index_or all k q ≡ q → q.seat ≢ seat → q.live ≤ rival all seat
rival_most [] seat q k l e other = absurd (omega arith)
rival_most (p ∷ all) seat q zero l e other = subst (λ (x : Paid). x.seat ≢ seat → x.live ≤ rival (p ∷ all) seat) e (λ own. by (p.seat == seat) refl own) other
  where
    by : (b : Bool) → (p.seat == seat) ≡ b → p.seat ≢ seat → p.live ≤ (if b then rival all seat else max p.live (rival all seat))
    by true e own = let same : p.seat ≡ seat = grind arith in absurd (own same)
    by false e own = omega arith
rival_most (p ∷ all) seat q (suc k) l e other = by (p.seat == seat) (rival_most all seat q k (omega (arith, l)) e other)
  where
    by : (b : Bool) → q.live ≤ rival all seat → q.live ≤ (if b then rival all seat else max p.live (rival all seat))
    by true up = up
    by false up = omega (arith, up)

abbrev Rivals : List Paid → ℕ → ℕ → Type 0
Rivals all seat most = (most ≡ 0) ⊎ ((other : Paid) × Contains all other × (other.seat ≢ seat) × (other.live ≡ most))

rival_is : (all : List Paid) (seat : ℕ) → Rivals all seat (rival all seat)
rival_is [] seat = inl refl
rival_is (p ∷ all) seat = by (p.seat == seat) refl (nat_lt p.live (rival all seat)) refl (rival_is all seat)
  where
    further : (most : ℕ) → Rivals all seat most → Rivals (p ∷ all) seat most
    further most (inl none) = inl none
    further most (inr (other, at, apart, is)) = inr (other, behind p other all at, apart, is)

    by : (b : Bool) → (p.seat == seat) ≡ b → (c : Bool) → nat_lt p.live (rival all seat) ≡ c → Rivals all seat (rival all seat) → Rivals (p ∷ all) seat (if b then rival all seat else max p.live (rival all seat))
    by true e c d r = further (rival all seat) r
    by false e true d r =
        let less : p.live < rival all seat = grind arith in
        let most : rival all seat ≡ max p.live (rival all seat) = omega (arith, less) in
        subst (Rivals (p ∷ all) seat) most (further (rival all seat) r)
    by false e false d r =
        let up : rival all seat ≤ p.live = grind arith in
        let most : p.live ≡ max p.live (rival all seat) = omega (arith, up) in
        inr (p, here p all, apart p.seat seat e, most)

-- so the seat that is alone is above its rival, and comes down to it
above_rival : (all : List Paid) (seat live : ℕ) → is_reached all seat live ≡ false → rival all seat ≤ live
above_rival all seat live h = by (rival_is all seat)
  where
    by : Rivals all seat (rival all seat) → rival all seat ≤ live
    by (inl none) = omega (arith, none)
    by (inr (other, at, not_own, is)) = let less = less_than all seat live other at.0 h at.1 at.2 not_own in omega (arith, less, is)

matched_at : (all : List Paid) (p : Paid) → Contains all p → is_reached all p.seat p.live ≡ false → IsMatched all p.seat (p.live - rival all p.seat)
matched_at all p at h =
    let up : rival all p.seat ≤ p.live = above_rival all p.seat p.live h in
    let left : p.live - (p.live - rival all p.seat) ≡ rival all p.seat = omega (arith, up) in
    record {
      player = p;
      is_in = at;
      own = refl;
      within = omega arith;
      most = λ other is not_own. (let under = rival_most all p.seat other is.0 is.1 is.2 not_own in omega (arith, under, left));
      matched = subst (Rivals all p.seat) (sym left) (rival_is all p.seat);
    }

abbrev pair_of : Option (ℕ × ℕ) → ℕ × ℕ
pair_of None = (0, 0)
pair_of (Some pair) = pair

alone : (all ps : List Paid) (seat units : ℕ) → ((q : Paid) → Contains ps q → Contains all q) → alone_in all ps ≡ Some (seat, units) → IsMatched all seat units
alone all [] seat units sub h = cc
alone all (p ∷ ps) seat units sub h = by (is_reached all p.seat p.live) refl h (alone all ps seat units (λ q at. sub q (behind p q ps at)))
  where
    by : (b : Bool) → is_reached all p.seat p.live ≡ b → (if b then alone_in all ps else Some (p.seat, p.live - rival all p.seat)) ≡ Some (seat, units)
        → (alone_in all ps ≡ Some (seat, units) → IsMatched all seat units) → IsMatched all seat units
    by true e h go = go h
    by false e h go =
        let own : p.seat ≡ seat = ap (λ o. (pair_of o).0) h in
        let back : p.live - rival all p.seat ≡ units = ap (λ o. (pair_of o).1) h in
        subst (λ (s : ℕ). IsMatched all s units) own (subst (λ (u : ℕ). IsMatched all p.seat u) back (matched_at all p (sub p (here p ps)) e))

-- where nobody is alone each is reached
split : (all ps : List Paid) (p : Paid) → alone_in all (p ∷ ps) ≡ None → (is_reached all p.seat p.live ≡ true) × (alone_in all ps ≡ None)
split all ps p h = by (is_reached all p.seat p.live) refl h
  where
    by : (b : Bool) → is_reached all p.seat p.live ≡ b → (if b then alone_in all ps else Some (p.seat, p.live - rival all p.seat)) ≡ None → (is_reached all p.seat p.live ≡ true) × (alone_in all ps ≡ None)
    by true e h = (e, h)
    by false e h = cc

all_reached : (all ps : List Paid) (player : Paid) (k : ℕ) → alone_in all ps ≡ None → k < length ps → slice_index_or ps k player ≡ player → IsReachedBy all player
all_reached all [] player k h l e = absurd (omega arith)
all_reached all (p ∷ ps) player zero h l e = subst (λ (x : Paid). IsReachedBy all x) e (reached_by all p.seat p.live (split all ps p h).0)
all_reached all (p ∷ ps) player (suc k) h l e = all_reached all ps player k (split all ps p h).1 (omega (arith, l)) e

pub others_match : OthersMatch
others_match ps = record {
  some = λ seat units h. alone ps ps seat units (λ q at. at) h;
  none = λ h player at. all_reached ps ps player at.0 h at.1 at.2;
}
