-- Players who are the same.
use Rattle.std.specs.Prelude.{◌≡◌, ℕ, Bool, true, false, ◌&&◌, List}
use Rattle.std.specs.Bool.{beq}
use Rattle.std.specs.Cmp.{first_so, second_so}
use Rattle.std.specs.Cmp.Lexicographic.{bytes_decides, nat_list_eq_equiv}
use Rattle.std.specs.Str.{bytes_eq}
use Rattle.std.proofs.Common.{refl, sym}
use Rattle.player_totals.specs.Totals.{Player, same_player}

pub same_bool : (a b : Bool) → beq a b ≡ true → a ≡ b
same_bool true true h = refl
same_bool true false h = sym h
same_bool false true h = h
same_bool false false h = refl

-- equal names in one unit are the same
pub same_name : (a b : Bool) (xs ys : List ℕ) → (beq a b && bytes_eq xs ys) ≡ true → (a ≡ b) × (xs ≡ ys)
same_name a b xs ys h =
    (same_bool a b (first_so (beq a b) (bytes_eq xs ys) h), (bytes_decides xs ys).0 (second_so (beq a b) (bytes_eq xs ys) h))

-- and are equal to the same names
pub names_congr : (a b c : Bool) (xs ys zs : List ℕ) → (beq a b && bytes_eq xs ys) ≡ true →
    (beq a c && bytes_eq xs zs) ≡ (beq b c && bytes_eq ys zs)
names_congr a b c xs ys zs h =
    let parts = same_name a b xs ys h in
    λ i. beq (parts.0 i) c && bytes_eq (parts.1 i) zs

beq_symm : (a b : Bool) → beq a b ≡ beq b a
beq_symm true true = refl
beq_symm true false = refl
beq_symm false true = refl
beq_symm false false = refl

pub same_symm : (a b : Player) → same_player a b ≡ same_player b a
same_symm a b = λ i. beq_symm a.hundredths b.hundredths i && nat_list_eq_equiv.symm a.name b.name i

pub same_congr : (a b c : Player) → same_player a b ≡ true → same_player a c ≡ same_player b c
same_congr a b c = names_congr a.hundredths b.hundredths c.hundredths a.name b.name c.name
