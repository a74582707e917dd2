use Rattle.std.proofs.Common.{◌≡◌, ℕ, ◌<◌, ◌≤◌, ◌+◌, ◌*◌, ◌/◌, ◌%◌, false, length}
use Rattle.board_runouts.specs.Fields.{IsCodeAt}
use Rattle.board_runouts.proofs.codes.Codes.fill.Given as goal

abbrev pub invariant-loop-low : goal.invariant-loop-low
invariant-loop-low l = record {
  ranks : l.self.ranks ≡ l.fn.ranks;
  least : l.self.least ≡ l.fn.least;
  places : length l.self.adds ≡ 169;
  not_yet : l.self.enough ≡ false;
  codes : (k : ℕ) → k < 13 * l.low → l.fn.least ≤ k / 13 → k / 13 ≤ k % 13 → (code : ℕ) × (code < l.self.used) × IsCodeAt l.self.adds l.self.ends l.rows k code;
}

abbrev pub invariant-loop-high : goal.invariant-loop-high
invariant-loop-high l = record {
  ranks : l.self.ranks ≡ l.fn.ranks;
  least : l.self.least ≡ l.fn.least;
  places : length l.self.adds ≡ 169;
  not_yet : l.self.enough ≡ false;
  codes : (k : ℕ) → k < 13 * l.low + l.high → l.fn.least ≤ k / 13 → k / 13 ≤ k % 13 → (code : ℕ) × (code < l.self.used) × IsCodeAt l.self.adds l.self.ends l.rows k code;
}
