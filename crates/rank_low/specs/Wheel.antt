-- A deuce-to-seven low by the ranks alone.
use Rattle.std.specs.Prelude.{ℕ, ◌%◌, ◌==◌, if◌then◌else◌}

-- the number of five cards, in which five to ace is no straight: of all numbers only that straight's ends in 1, and 14,
-- 5, 4, 3, and 2 replace it
abbrev pub without_wheel : ℕ → ℕ
without_wheel number = if number % 16 == 1 then 939058 else number
