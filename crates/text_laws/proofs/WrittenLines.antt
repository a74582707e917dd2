-- Lines that are written are read as what was meant.
use Rattle.std.proofs.Common.{◌≡◌, ℕ, ◌+◌, ◌≤◌, inl, inr, Bool, true, false, cond, List, [], ◌∷◌, ◌++◌, length, take, drop, refl, ap, sym, subst, ◌∙◌, arith, eqb, Option, Some, None, Ok, Err}
use Rattle.std.specs.Prelude.{codes, nat_eq, IfSome, option_map, option_and_then}
use Rattle.std.specs.List.{AllByRecursion, starts_with}
use Rattle.std.proofs.lemmas.Bool.Decides.{Decides-eqb}
use Rattle.std.proofs.lemmas.List.{take_at, drop_at}
use Rattle.std.proofs.lemmas.Slice.Eq.{starts_is}
use Rattle.line_text.specs.Amounts.{digit_count, has_point}
use Rattle.text_laws.proofs.WrittenAmounts.{written_amount_is_read}
use Rattle.hand_events.specs.declared.events.Header.{Header}
use Rattle.hand_events.specs.declared.events.PostKind.{PostKind}
use Rattle.hand_events.specs.declared.events.PostKind.TheVariants.{Small, Big, Both, Ante, BringIn}
use Rattle.hand_events.specs.declared.events.Act.{Act as Deed}
use Rattle.hand_events.specs.declared.events.Act.TheVariants.{Fold, Check, Call, Bet, Raise}
use Rattle.hand_events.specs.declared.events.Event.TheVariants as event
use Rattle.history_text.specs.Texts.{behind}
use Rattle.history_text.specs.Names.{Fit, fit, front_name}
use Rattle.text_laws.specs.NameLaws.{IsNotLonger, IsFitOf}
use Rattle.hand_events.specs.declared.events.TextFault.TheVariants.{BadAmount}
use Rattle.history_text.specs.Reading.{◌>>=◌, money, some_money, follows, all_in_end, money_of}
use Rattle.history_text.specs.Acts.{verb_of, post, call, bet, raise, perhaps_cards, fold, verb_event, act_event}
use Rattle.text_laws.specs.WrittenLines.{IsOneOf, IsNamed, IsLongest, IsPaid, all_in_text, IsPostOf, SaysPost, SaysAct}
use Rattle.text_laws.proofs.LongestNames.{all_are_longest}

-- what stands after a front
pub behind_front : (front rest : List ℕ) → behind front (front ++ rest) ≡ Some rest
unfolding behind
behind_front front rest =
    let begins : starts_with nat_eq (front ++ rest) front ≡ true =
    (starts_is Decides-eqb (front ++ rest) front (starts_with nat_eq (front ++ rest) front) refl).1 rest refl in
    rw begins (ap (λ (t : List ℕ). Some t) (drop_at front rest (length front) refl))

front_of : (front text rest : List ℕ) → behind front text ≡ Some rest → text ≡ front ++ rest
unfolding behind
front_of front text rest h = by_test (starts_with nat_eq text front) refl
  where
    by_test : (b : Bool) → starts_with nat_eq text front ≡ b → text ≡ front ++ rest
    by_test true e =
        let is : Some (drop (length front) text) ≡ Some rest = rw e at h in
        let same : drop (length front) text ≡ rest = cc in
        (starts_is Decides-eqb text front (starts_with nat_eq text front) refl).0 e ∙ ap (λ t. front ++ t) same
    by_test false e = let is : ◌≡◌ {A = Option (List ℕ)} None (Some rest) = rw e at h in absurd (cc)

-- a name with a mark after it fits
name_fits : (mark name rest : List ℕ) (seat : ℕ) →
    fit mark (name ++ (mark ++ rest)) (seat, name) ≡ Some (let f : Fit = record { seat = seat; length = length name; rest = rest } in f)
name_fits mark name rest seat =
    ap (λ o. option_map (λ (r : List ℕ). let f : Fit = record { seat = seat; length = length name; rest = r } in f) (option_and_then (λ tail. behind mark tail) o))
    (behind_front name (mark ++ rest))
    ∙ ap (λ o. option_map (λ (r : List ℕ). let f : Fit = record { seat = seat; length = length name; rest = r } in f) o) (behind_front mark rest)

-- and what fits is a name with the mark after it
record IsFitBy (mark text : List ℕ) (who : ℕ × List ℕ) (f : Fit) : Type 0 where
  seat : f.seat ≡ who.0
  length : f.length ≡ length who.1
  whole : text ≡ who.1 ++ (mark ++ f.rest)

fit_by : (mark text : List ℕ) (who : ℕ × List ℕ) (f : Fit) → fit mark text who ≡ Some f → IsFitBy mark text who f
fit_by mark text who f h = by_tail (behind who.1 text) refl
  where
    by_rest : (tail : List ℕ) → text ≡ who.1 ++ tail → (o : Option (List ℕ)) → behind mark tail ≡ o →
        option_map (λ (r : List ℕ). let g : Fit = record { seat = who.0; length = length who.1; rest = r } in g) o ≡ Some f → IsFitBy mark text who f
    by_rest tail front None e k = absurd (cc)
    by_rest tail front (Some rest) e k =
        let same : (let g : Fit = record { seat = who.0; length = length who.1; rest = rest } in g) ≡ f = cc in
        let back : tail ≡ mark ++ rest = front_of mark tail rest e in
        record {
          seat = sym (ap (λ (g : Fit). g.seat) same);
          length = sym (ap (λ (g : Fit). g.length) same);
          whole = front ∙ ap (λ t. who.1 ++ t) (back ∙ ap (λ (g : Fit). mark ++ g.rest) same);
        }

    by_tail : (o : Option (List ℕ)) → behind who.1 text ≡ o → IsFitBy mark text who f
    by_tail None e =
        let k : ◌≡◌ {A = Option Fit} None (Some f) =
        sym (ap (λ o. option_map (λ (r : List ℕ). let g : Fit = record { seat = who.0; length = length who.1; rest = r } in g) (option_and_then (λ tail. behind mark tail) o)) e) ∙ h in
        absurd (cc)
    by_tail (Some tail) e =
        by_rest tail (front_of who.1 text tail e) (behind mark tail) refl
        (sym (ap (λ o. option_map (λ (r : List ℕ). let g : Fit = record { seat = who.0; length = length who.1; rest = r } in g) (option_and_then (λ t. behind mark t) o)) e) ∙ h)

-- what holds of each name holds of one of them
of_one : (P : ℕ × List ℕ → Type 0) (who : ℕ × List ℕ) (names : List (ℕ × List ℕ)) → AllByRecursion P names → IsOneOf who names → P who
of_one P who [] all h = absurd h
of_one P who (first ∷ names) all (inl e) = subst P e (all.0)
of_one P who (first ∷ names) all (inr h) = of_one P who names (all.1) h

record FitsOneOf (mark text : List ℕ) (names : List (ℕ × List ℕ)) (f : Fit) : Type 0 where
  who : ℕ × List ℕ
  one : IsOneOf who names
  by : IsFitBy mark text who f

fits_one : (mark text : List ℕ) (names : List (ℕ × List ℕ)) (f : Fit) → IsFitOf mark text names (Some f) → FitsOneOf mark text names f
fits_one mark text [] f h = absurd h
fits_one mark text (who ∷ names) f (inl e) = record { who = who; one = inl refl; by = fit_by mark text who f e }
fits_one mark text (who ∷ names) f (inr h) =
    let later = fits_one mark text names f h in record { who = later.who; one = inr later.one; by = later.by }

-- fronts of one length are the same, and so is what stands after them
pub same_front : (xs ys us vs : List ℕ) → length xs ≡ length ys → xs ++ us ≡ ys ++ vs → (xs ≡ ys) × (us ≡ vs)
same_front xs ys us vs long same =
    let fronts : xs ≡ ys = sym (take_at xs us (length xs) refl) ∙ ap (take (length xs)) same ∙ take_at ys vs (length xs) (sym long) in
    let backs : us ≡ vs = sym (drop_at xs us (length xs) refl) ∙ ap (drop (length xs)) same ∙ drop_at ys vs (length xs) (sym long) in
    (fronts, backs)

abbrev own_fit : ℕ → List ℕ → List ℕ → Fit
own_fit seat name rest = record { seat = seat; length = length name; rest = rest }

same_fit : (f : Fit) (seat long : ℕ) (rest : List ℕ) → f.seat ≡ seat → f.length ≡ long → f.rest ≡ rest →
    f ≡ (let g : Fit = record { seat = seat; length = long; rest = rest } in g)
same_fit f seat long rest e g h = rw (sym e, sym g, sym h) refl

-- under these conditions it is the name that counts
pub name_counts : (names : List (ℕ × List ℕ)) (mark : List ℕ) (seat : ℕ) (name rest : List ℕ) → IsNamed names seat name → IsLongest names mark name rest →
    front_name mark (name ++ (mark ++ rest)) names ≡ Some (own_fit seat name rest)
name_counts names mark seat name rest named longest =
    let law = all_are_longest mark (name ++ (mark ++ rest)) names in
    by_found (front_name mark (name ++ (mark ++ rest)) names) law.fits law.longest
  where
    by_found : (r : Option Fit) → IfSome r (λ f. IsFitOf mark (name ++ (mark ++ rest)) names (Some f)) →
        AllByRecursion (λ who. IsNotLonger (fit mark (name ++ (mark ++ rest)) who) r) names → r ≡ Some (own_fit seat name rest)
    by_found None fits all =
        let none : IsNotLonger (fit mark (name ++ (mark ++ rest)) (seat, name)) None =
        of_one (λ who. IsNotLonger (fit mark (name ++ (mark ++ rest)) who) None) (seat, name) names all named.seated in
        absurd (subst (λ (o : Option Fit). IsNotLonger o None) (name_fits mark name rest seat) none)
    by_found (Some f) fits all =
        let one = fits_one mark (name ++ (mark ++ rest)) names f fits in
        let other : IsOneOf ((one.who).0, (one.who).1) names = one.one in
        let same = one.by.whole in
        let above : length (one.who).1 ≤ length name = longest (one.who).0 (one.who).1 f.rest other same in
        let counted : IsNotLonger (fit mark (name ++ (mark ++ rest)) (seat, name)) (Some f) =
        of_one (λ who. IsNotLonger (fit mark (name ++ (mark ++ rest)) who) (Some f)) (seat, name) names all named.seated in
        let below : length name ≤ f.length =
        subst (λ (o : Option Fit). IsNotLonger o (Some f)) (name_fits mark name rest seat) counted in
        let far = one.by.length in
        let long : length name ≡ length (one.who).1 = omega arith in
        let parts = same_front name (one.who).1 (mark ++ rest) (mark ++ f.rest) long same in
        let is_name : (one.who).1 ≡ name = sym parts.0 in
        let its_seat : (one.who).0 ≡ seat = named.alone (one.who).0 (subst (λ n. IsOneOf ((one.who).0, n) names) is_name other) in
        let its_rest = same_front mark mark rest f.rest refl parts.1 in
        ap (λ (g : Fit). Some g)
        (same_fit f seat (length name) rest (one.by.seat ∙ its_seat) (far ∙ sym long) (sym its_rest.1))

-- and none counts where no name with the mark begins the line
pub none_counts : (names : List (ℕ × List ℕ)) (mark line : List ℕ) →
    ((seat : ℕ) (name more : List ℕ) → IsOneOf (seat, name) names → line ≡ name ++ (mark ++ more) → ⊥) →
    front_name mark line names ≡ None
none_counts names mark line nobody = by_found (front_name mark line names) (all_are_longest mark line names).fits
  where
    by_found : (r : Option Fit) → IfSome r (λ f. IsFitOf mark line names (Some f)) → r ≡ None
    by_found None fits = refl
    by_found (Some f) fits =
        let one = fits_one mark line names f fits in
        absurd (nobody (one.who).0 (one.who).1 f.rest one.one one.by.whole)

-- an amount that is paid is read, and what stands after it is left
pub paid_is_read : (header : Header) (units : ℕ) (amount rest : List ℕ) → IsPaid header units amount → digit_count rest ≡ 0 → has_point rest ≡ false →
    some_money header.hundredths (amount ++ rest) ≡ Ok (units, rest)
unfolding money some_money
paid_is_read header units amount rest paid none no_point =
    let read = written_amount_is_read header.hundredths units amount [] rest paid.writes paid.fits none no_point in
    let more : eqb units 0 ≡ false = grind (arith, paid.some) in
    let back : drop (0 + length amount) (amount ++ rest) ≡ rest = drop_at amount rest (0 + length amount) (omega arith) in
    ap (λ m. money_of (amount ++ rest) m >>= (λ a. cond (eqb a.0 0) (Err BadAmount) (Ok a))) read.1
    ∙ rw (more, back) refl

end_none : (all_in : Bool) → digit_count (all_in_text all_in) ≡ 0
end_none true = refl
end_none false = refl

end_no_point : (all_in : Bool) → has_point (all_in_text all_in) ≡ false
end_no_point true = refl
end_no_point false = refl

end_read : (all_in : Bool) → all_in_end (all_in_text all_in) ≡ Ok all_in
unfolding all_in_end
end_read true = refl
end_read false = refl

-- what a player's line says, part by part
post_read : (header : Header) (seat : ℕ) (kind : PostKind) (units : ℕ) (amount : List ℕ) (all_in : Bool) → IsPaid header units amount →
    post header seat kind (amount ++ all_in_text all_in) ≡ Ok (event.Post seat kind units all_in)
unfolding post
post_read header seat kind units amount all_in paid =
    let read = paid_is_read header units amount (all_in_text all_in) paid (end_none all_in) (end_no_point all_in) in
    let ends = end_read all_in in
    rw (read, ends) refl

call_read : (header : Header) (seat units : ℕ) (amount : List ℕ) (all_in : Bool) → IsPaid header units amount →
    call header seat (amount ++ all_in_text all_in) ≡ Ok (event.Act seat (Call units) all_in [])
unfolding call
call_read header seat units amount all_in paid =
    let read = paid_is_read header units amount (all_in_text all_in) paid (end_none all_in) (end_no_point all_in) in
    let ends = end_read all_in in
    rw (read, ends) refl

bet_read : (header : Header) (seat units : ℕ) (amount : List ℕ) (all_in : Bool) → IsPaid header units amount →
    bet header seat (amount ++ all_in_text all_in) ≡ Ok (event.Act seat (Bet units) all_in [])
unfolding bet
bet_read header seat units amount all_in paid =
    let read = paid_is_read header units amount (all_in_text all_in) paid (end_none all_in) (end_no_point all_in) in
    let ends = end_read all_in in
    rw (read, ends) refl

raise_read : (header : Header) (seat by to : ℕ) (first second : List ℕ) (all_in : Bool) → IsPaid header by first → IsPaid header to second →
    raise header seat (first ++ (codes " to " ++ (second ++ all_in_text all_in))) ≡ Ok (event.Act seat (Raise by to) all_in [])
unfolding raise follows behind
raise_read header seat by to first second all_in paid_by paid_to =
    let read_by = paid_is_read header by first (codes " to " ++ (second ++ all_in_text all_in)) paid_by refl refl in
    let read_to = paid_is_read header to second (all_in_text all_in) paid_to (end_none all_in) (end_no_point all_in) in
    let ends = end_read all_in in
    rw (read_by, read_to, ends) refl

pub act_read : (header : Header) (seat : ℕ) (act : Deed) (all_in : Bool) (text : List ℕ) → SaysAct header act all_in text →
    act_event header seat text ≡ Ok (event.Act seat act all_in [])
unfolding act_event verb_of behind verb_event fold perhaps_cards
act_read header seat Fold all_in text (none, is) = rw (none, is) refl
act_read header seat Check all_in text (none, is) = rw (none, is) refl
act_read header seat (Call units) all_in text (amount, paid, is) = rw is (call_read header seat units amount all_in paid)
act_read header seat (Bet units) all_in text (amount, paid, is) = rw is (bet_read header seat units amount all_in paid)
act_read header seat (Raise by to) all_in text (first, second, paid_by, paid_to, is) =
    rw is (raise_read header seat by to first second all_in paid_by paid_to)

pub posted : (header : Header) (seat : ℕ) (kind : PostKind) (units : ℕ) (all_in : Bool) (text : List ℕ) → IsPostOf header.game kind →
    SaysPost header kind units all_in text → act_event header seat text ≡ Ok (event.Post seat kind units all_in)
unfolding act_event verb_of behind verb_event
posted header seat Small units all_in text of_game (amount, paid, is) = rw is (post_read header seat Small units amount all_in paid)
posted header seat Big units all_in text of_game (amount, paid, is) = rw is (post_read header seat Big units amount all_in paid)
posted header seat Both units all_in text of_game (amount, paid, is) = rw is (post_read header seat Both units amount all_in paid)
posted header seat Ante units all_in text of_game (amount, paid, is) = rw is (post_read header seat Ante units amount all_in paid)
posted header seat BringIn units all_in text of_game (amount, paid, is) =
    rw (is, of_game) (post_read header seat BringIn units amount all_in paid)
