-- One lemma for each way in which a run ends.
use Rattle.std.proofs.Common.{◌≡◌, ℕ, ◌<◌, ◌≤◌, List, length, length-append, Option, Some, None, inl, inr, ◌⊎◌, arith, refl, sym, ap, ◌∙◌, false, not}
use mathlib.Core.Bool.{true≢false}
use Rattle.std.specs.Prelude.{IfSome}
use Rattle.byte_ends.specs.Ends.{Rises, WritesAll, WritesFront}
use Rattle.command_words.specs.Command.{reads_input, usage_line}
use Rattle.command_words.specs.declared.command.Command.{Command}
use Rattle.run_loop.specs.Reading.{ReadWhole, ReadTooMuch}
use Rattle.run_loop.specs.Headline.{IsRun, Ends, IsFinished, IsReadFault, IsWriteFault, IsTooLong, IsMemoryShort}

always : (left : Option (List ℕ)) (P : List ℕ → Type 0) (Q : Type 0) → Q → IfSome left (λ bytes. P bytes → Q)
always None P Q q = tt
always (Some bytes) P Q q = λ _. q

within : (limit : ℕ) (left left' : Option (List ℕ)) (bytes : List ℕ) (Q : Type 0) → ReadWhole limit left left' bytes → IfSome left (λ all. limit < length all → Q)
within limit None left' bytes Q r = tt
within limit (Some all) left' bytes Q r = λ more. absurd (let l = r.2 in omega arith)

beyond : (limit : ℕ) (left left' : Option (List ℕ)) (bytes : List ℕ) (Q : Type 0) → ReadTooMuch limit left left' bytes → IfSome left (λ all. length all ≤ limit → Q)
beyond limit None left' bytes Q r = tt
beyond limit (Some all) left' bytes Q r = λ less. absurd (let l = r.over in omega (arith, ap length r.takes.2, length-append r.taken r.takes.0))

-- all was read and written
pub run_finished : (limit : ℕ) (command : Command) (status : ℕ) (old new : Ends) → (status ≡ 0) ⊎ (status ≡ 1)
    → (reads_input command.mode ≡ false → (new.left ≡ old.left) × (new.read_faults ≡ old.read_faults)) → IsFinished limit command status old new → IsRun limit (Some command) status old new
run_finished limit command status old new which unread end = record {
  known = small which;
  write_told = inl end.no_write_fault;
  read_told = inl end.no_read_fault;
  finished = λ _. end;
  usage = λ e. absurd (not_two which e);
  unread = unread;
  read_fault = λ e. absurd (not_three which e);
  write_fault = λ e. absurd (not_four which e);
  usage_fault = λ _. tt;
  too_long = λ e. absurd (not_five which e);
  memory = λ e. absurd (not_six which e);
  usage_memory = λ _. tt;
  complete = λ _ _. always old.left (λ bytes. length bytes ≤ limit) _ (one_of which);
  complete_long = λ r _. within limit old.left new.left end.bytes _ (end.read r);
  complete_made = λ _ _. one_of which;
  complete_usage = λ none. absurd (true≢false none);
}
  where
    small : (status ≡ 0) ⊎ (status ≡ 1) → status ≤ 6
    small (inl e) = omega arith
    small (inr e) = omega arith

    not_two : (status ≡ 0) ⊎ (status ≡ 1) → status ≡ 2 → ⊥
    not_two (inl e) h = omega arith
    not_two (inr e) h = omega arith

    not_three : (status ≡ 0) ⊎ (status ≡ 1) → status ≡ 3 → ⊥
    not_three (inl e) h = omega arith
    not_three (inr e) h = omega arith

    not_four : (status ≡ 0) ⊎ (status ≡ 1) → status ≡ 4 → ⊥
    not_four (inl e) h = omega arith
    not_four (inr e) h = omega arith

    not_five : (status ≡ 0) ⊎ (status ≡ 1) → status ≡ 5 → ⊥
    not_five (inl e) h = omega arith
    not_five (inr e) h = omega arith

    not_six : (status ≡ 0) ⊎ (status ≡ 1) → status ≡ 6 → ⊥
    not_six (inl e) h = omega arith
    not_six (inr e) h = omega arith

    one_of : (status ≡ 0) ⊎ (status ≡ 1) → (status ≡ 0) ⊎ (status ≡ 1) ⊎ (status ≡ 6)
    one_of (inl e) = inl e
    one_of (inr e) = inr (inl e)

-- the words are in no form, and the usage line is written
pub run_usage : (limit : ℕ) (old new : Ends) → WritesAll old.taken new.taken usage_line → new.left ≡ old.left → new.read_faults ≡ old.read_faults → new.write_faults ≡ old.write_faults → IsRun limit None 2 old new
run_usage limit old new written left faults calm = record {
  known = omega arith;
  write_told = inl calm;
  read_told = inl faults;
  finished = λ s. absurd (elim s [ inl e ↦ omega arith | inr e ↦ omega arith ]);
  usage = λ _. (refl, written);
  unread = λ _. (left, faults);
  read_fault = λ e. absurd (omega arith);
  write_fault = λ _. tt;
  usage_fault = λ e. absurd (omega arith);
  too_long = λ e. absurd (omega arith);
  memory = λ _. tt;
  usage_memory = λ e. absurd (omega arith);
  complete = λ some _. absurd (true≢false (sym some));
  complete_long = λ some _. absurd (true≢false (sym some));
  complete_made = λ some _. absurd (true≢false (sym some));
  complete_usage = λ _ _. inl refl;
}

-- the words are in no form, and the write of the usage line failed
pub run_usage_fault : (limit : ℕ) (old new : Ends) → Rises old.write_faults new.write_faults → WritesFront old.taken new.taken usage_line → new.left ≡ old.left → new.read_faults ≡ old.read_faults → IsRun limit None 4 old new
run_usage_fault limit old new rises front left faults = record {
  known = omega arith;
  write_told = inr refl;
  read_told = inl faults;
  finished = λ s. absurd (elim s [ inl e ↦ omega arith | inr e ↦ omega arith ]);
  usage = λ e. absurd (omega arith);
  unread = λ _. (left, faults);
  read_fault = λ e. absurd (omega arith);
  write_fault = λ _. tt;
  usage_fault = λ _. (rises, front);
  too_long = λ e. absurd (omega arith);
  memory = λ _. tt;
  usage_memory = λ e. absurd (omega arith);
  complete = λ some _. absurd (true≢false (sym some));
  complete_long = λ some _. absurd (true≢false (sym some));
  complete_made = λ some _. absurd (true≢false (sym some));
  complete_usage = λ _ none. absurd (none rises);
}

-- a read failed
pub run_read_fault : (limit : ℕ) (command : Command) (old new : Ends) → IsReadFault limit command old new → new.write_faults ≡ old.write_faults → IsRun limit (Some command) 3 old new
run_read_fault limit command old new fault calm = record {
  known = omega arith;
  write_told = inl calm;
  read_told = inr (inl refl);
  finished = λ s. absurd (elim s [ inl e ↦ omega arith | inr e ↦ omega arith ]);
  usage = λ e. absurd (omega arith);
  unread = λ none. absurd (true≢false (sym fault.reads ∙ none));
  read_fault = λ _. fault;
  write_fault = λ e. absurd (omega arith);
  usage_fault = λ _. tt;
  too_long = λ e. absurd (omega arith);
  memory = λ e. absurd (omega arith);
  usage_memory = λ _. tt;
  complete = λ _ faultless. absurd (faultless.read fault.rises);
  complete_long = λ _ faultless. absurd (faultless.read fault.rises);
  complete_made = λ made _. absurd (true≢false (sym made ∙ ap not fault.reads));
  complete_usage = λ none. absurd (true≢false none);
}

-- a write failed
pub run_write_fault : (limit : ℕ) (command : Command) (old new : Ends) → (reads_input command.mode ≡ false → (new.left ≡ old.left) × (new.read_faults ≡ old.read_faults)) → IsWriteFault limit command old new → IsRun limit (Some command) 4 old new
run_write_fault limit command old new unread fault = record {
  known = omega arith;
  write_told = inr refl;
  read_told = inr (inr (inl refl));
  finished = λ s. absurd (elim s [ inl e ↦ omega arith | inr e ↦ omega arith ]);
  usage = λ e. absurd (omega arith);
  unread = unread;
  read_fault = λ e. absurd (omega arith);
  write_fault = λ _. fault;
  usage_fault = λ _. tt;
  too_long = λ e. absurd (omega arith);
  memory = λ e. absurd (omega arith);
  usage_memory = λ _. tt;
  complete = λ _ faultless. absurd (faultless.write fault.rises);
  complete_long = λ _ faultless. absurd (faultless.write fault.rises);
  complete_made = λ _ none. absurd (none fault.rises);
  complete_usage = λ none. absurd (true≢false none);
}

-- there was more than the limit
pub run_too_long : (limit : ℕ) (command : Command) (old new : Ends) → IsTooLong limit command old new → new.write_faults ≡ old.write_faults → new.read_faults ≡ old.read_faults → IsRun limit (Some command) 5 old new
run_too_long limit command old new long calm faults = record {
  known = omega arith;
  write_told = inl calm;
  read_told = inl faults;
  finished = λ s. absurd (elim s [ inl e ↦ omega arith | inr e ↦ omega arith ]);
  usage = λ e. absurd (omega arith);
  unread = λ none. absurd (true≢false (sym long.reads ∙ none));
  read_fault = λ e. absurd (omega arith);
  write_fault = λ e. absurd (omega arith);
  usage_fault = λ _. tt;
  too_long = λ _. long;
  memory = λ e. absurd (omega arith);
  usage_memory = λ _. tt;
  complete = λ _ _. beyond limit old.left new.left long.bytes _ long.read;
  complete_long = λ _ _. always old.left (λ bytes. limit < length bytes) _ (inl refl);
  complete_made = λ made _. absurd (true≢false (sym made ∙ ap not long.reads));
  complete_usage = λ none. absurd (true≢false none);
}

-- memory ran out
pub run_memory : (limit : ℕ) (command : Command) (old new : Ends) → (reads_input command.mode ≡ false → (new.left ≡ old.left) × (new.read_faults ≡ old.read_faults)) → IsMemoryShort limit command old new → new.write_faults ≡ old.write_faults → IsRun limit (Some command) 6 old new
run_memory limit command old new unread short calm = record {
  known = omega arith;
  write_told = inl calm;
  read_told = inr (inr (inr refl));
  finished = λ s. absurd (elim s [ inl e ↦ omega arith | inr e ↦ omega arith ]);
  usage = λ e. absurd (omega arith);
  unread = unread;
  read_fault = λ e. absurd (omega arith);
  write_fault = λ e. absurd (omega arith);
  usage_fault = λ _. tt;
  too_long = λ e. absurd (omega arith);
  memory = λ _. short;
  usage_memory = λ _. tt;
  complete = λ _ _. always old.left (λ bytes. length bytes ≤ limit) _ (inr (inr refl));
  complete_long = λ _ _. always old.left (λ bytes. limit < length bytes) _ (inr refl);
  complete_made = λ _ _. inr (inr refl);
  complete_usage = λ none. absurd (true≢false none);
}

-- the words are in no form, and memory ran out before anything was written
pub run_usage_short : (limit : ℕ) (old new : Ends) → new.left ≡ old.left → new.read_faults ≡ old.read_faults → new.taken ≡ old.taken → new.write_faults ≡ old.write_faults → IsRun limit None 6 old new
run_usage_short limit old new left faults taken calm = record {
  known = omega arith;
  write_told = inl calm;
  read_told = inl faults;
  finished = λ s. absurd (elim s [ inl e ↦ omega arith | inr e ↦ omega arith ]);
  usage = λ e. absurd (omega arith);
  unread = λ _. (left, faults);
  read_fault = λ e. absurd (omega arith);
  write_fault = λ _. tt;
  usage_fault = λ e. absurd (omega arith);
  too_long = λ e. absurd (omega arith);
  memory = λ _. tt;
  usage_memory = λ _. taken;
  complete = λ some _. absurd (true≢false (sym some));
  complete_long = λ some _. absurd (true≢false (sym some));
  complete_made = λ some _. absurd (true≢false (sym some));
  complete_usage = λ _ _. inr refl;
}
