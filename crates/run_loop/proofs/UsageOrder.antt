-- A run whose words are in no form.
use Rattle.std.proofs.Common.{◌≡◌, ℕ, List, [], ◌∷◌, ◌++◌, Option, Some, None, inl, inr, refl, sym, ap, subst, ◌∙◌, append_assoc, append-nil}
use Rattle.std.specs.List.{concat}
use Rattle.byte_ends.specs.Ends.{WritesOn}
use Rattle.command_words.specs.Command.{usage_line}
use Rattle.run_loop.specs.Order.{Event, FollowsUsage, IsFront, IsInOrder, Went}
use Rattle.run_loop.specs.Order.Event.{Writing}
use Rattle.run_loop.specs.Reporting.{WritesUsage}
use Rattle.command_words.specs.declared.command.Command.{Command}

-- some events lead to where such a run ends, and are what is left to do
abbrev pub SaysUsage : {S K : Type 0} → (S → S → Option (List ℕ) → Type 0) → (K → K → Option (List ℕ) → Type 0) → List ℕ → S → K → ℕ → S → K → Type 0
SaysUsage reads writes wrote s k status s' k' = (events : List Event) × Went reads writes s k events s' k' × FollowsUsage wrote events status

-- what is written of the line goes before
usage_before : {S K : Type 0} (reads : S → S → Option (List ℕ) → Type 0) (writes : K → K → Option (List ℕ) → Type 0) (wrote : List ℕ) (s : S) (k : K) (parts : List (List ℕ)) (mid : K) (status : ℕ) (s' : S) (k' : K)
    → IsFront (wrote ++ concat parts) usage_line → WritesOn writes k parts mid → SaysUsage reads writes (wrote ++ concat parts) s mid status s' k' → SaysUsage reads writes wrote s k status s' k'
usage_before {S} {K} reads writes wrote s k [] mid status s' k' front w g =
    let a = subst (λ (m : K). SaysUsage reads writes (wrote ++ []) s m status s' k') w g in
    subst (λ (xs : List ℕ). SaysUsage reads writes xs s k status s' k') (append-nil wrote) a
usage_before {S} {K} reads writes wrote s k (part ∷ later) mid status s' k' front w g =
    let joined : wrote ++ (part ++ concat later) ≡ (wrote ++ part) ++ concat later = sym (append_assoc wrote part (concat later)) in
    let whole : usage_line ≡ ((wrote ++ part) ++ concat later) ++ front.0 = front.1 ∙ ap (λ xs. xs ++ front.0) joined in
    let rest = usage_before reads writes (wrote ++ part) s w.0 later mid status s' k' (front.0, whole) w.3 (subst (λ (xs : List ℕ). SaysUsage reads writes xs s mid status s' k') joined g) in
    (Writing (Some part) ∷ rest.0, (w.0, w.2, rest.1), (w.1, (concat later ++ front.0, whole ∙ append_assoc (wrote ++ part) (concat later) front.0), rest.2))

pub in_order_usage : {S K : Type 0} (reads : S → S → Option (List ℕ) → Type 0) (writes : K → K → Option (List ℕ) → Type 0) (limit : ℕ) (words : Option Command) (status : ℕ) (s : S) (k k' : K)
    → words ≡ None → WritesUsage writes k k' status → IsInOrder reads writes limit words status s k s k'
in_order_usage reads writes limit words status s k k' is (inl w) =
    rw (is, w.0) (usage_before reads writes [] s k w.1.0 k' 2 s k' ([], sym w.1.1 ∙ sym (append-nil (concat w.1.0))) w.1.2 ([], (refl, refl), inl (w.1.1, refl)))
in_order_usage reads writes limit words status s k k' is (inr w) =
    let out = w.2 in
    rw (is, w.0) (usage_before reads writes [] s k out.0 out.2 4 s k' (out.1, sym out.4) out.5 (Writing None ∷ [], (k', out.6, (refl, refl)), ((out.1, out.3, sym out.4), refl, refl)))
