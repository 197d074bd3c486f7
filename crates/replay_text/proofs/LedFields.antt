-- Fields that are written one after the other.
use Rattle.std.proofs.Common.{◌≡◌, ℕ, List, [], ◌∷◌, ◌++◌, refl, sym, ap, ◌∙◌, append_assoc, append-nil, codes, map, length, ◌<◌, ◌-◌, ◌≢◌, get_or, take, drop, Bool, true, false, arith}
use Rattle.events.specs.Text.{joined, or_star, or_none, action_text, prefix_field, prefix_text}
use Rattle.std.proofs.lemmas.List.{take_rest}
use Rattle.std.proofs.lemmas.Bool.{cond-false, ne_eqb}
use Rattle.net_types.specs.declared.prefix.Prefix.{Prefix}
use Rattle.net_types.specs.declared.actions.Action.{Action}
use Rattle.replay_text.specs.Fields.{led, next_lead, more_text}

after_comma : (xs : List (List ℕ)) → next_lead (codes ",") xs ≡ codes ","
after_comma [] = refl
after_comma (x ∷ xs) = refl

pub led-append : (lead : List ℕ) (xs ys : List (List ℕ)) → led lead (xs ++ ys) ≡ led lead xs ++ led (next_lead lead xs) ys
led-append lead [] ys = refl
led-append lead (x ∷ xs) ys =
    ap (λ l. (lead ++ x) ++ l) (led-append (codes ",") xs ys ∙ ap (λ c. led (codes ",") xs ++ led c ys) (after_comma xs))
    ∙ sym (append_assoc (lead ++ x) (led (codes ",") xs) (led (codes ",") ys))

pub next_lead-append : (lead : List ℕ) (xs ys : List (List ℕ)) → next_lead lead (xs ++ ys) ≡ next_lead (next_lead lead xs) ys
next_lead-append lead [] ys = refl
next_lead-append lead (x ∷ xs) [] = refl
next_lead-append lead (x ∷ xs) (y ∷ ys) = refl

-- a separator and a text behind the others
behind : (x separator y rest : List ℕ) → (x ++ separator) ++ (y ++ rest) ≡ x ++ ((separator ++ y) ++ rest)
behind x separator y rest = append_assoc x separator (y ++ rest) ∙ ap (λ l. x ++ l) (sym (append_assoc separator y rest))

pub joined-led : (x : List ℕ) (xs : List (List ℕ)) → joined (codes ",") (x ∷ xs) ≡ x ++ led (codes ",") xs
joined-led x [] = sym (append-nil x)
joined-led x (y ∷ xs) = ap (λ l. (x ++ codes ",") ++ l) (joined-led y xs) ∙ behind x (codes ",") y (led (codes ",") xs)

-- one field behind what leads it
pub written_field : (text lead name value : List ℕ) → (text ++ (lead ++ (name ++ codes "="))) ++ value ≡ text ++ led lead ((name ++ codes "=" ++ value) ∷ [])
written_field text lead name value =
    append_assoc text (lead ++ (name ++ codes "=")) value
    ∙ ap (λ l. text ++ l) (append_assoc lead (name ++ codes "=") value ∙ sym (append-nil (lead ++ ((name ++ codes "=") ++ value))))

-- fields behind fields
pub more_led : (t0 t1 t2 lead next : List ℕ) (xs ys : List (List ℕ)) → t1 ≡ t0 ++ led lead xs → next ≡ next_lead lead xs → t2 ≡ t1 ++ led next ys → t2 ≡ t0 ++ led lead (xs ++ ys)
more_led t0 t1 t2 lead next xs ys first is second =
    second ∙ ap (λ t. t ++ led next ys) first ∙ append_assoc t0 (led lead xs) (led next ys)
    ∙ ap (λ n. t0 ++ (led lead xs ++ led n ys)) is ∙ ap (λ l. t0 ++ l) (sym (led-append lead xs ys))

pub more_next : (lead next last : List ℕ) (xs ys : List (List ℕ)) → next ≡ next_lead lead xs → last ≡ next_lead next ys → last ≡ next_lead lead (xs ++ ys)
more_next lead next last xs ys is e = e ∙ ap (λ n. next_lead n ys) is ∙ sym (next_lead-append lead xs ys)

pub ruleset led_rules = (led-append, next_lead-append, append_assoc)

-- nothing was written yet
pub star-none : (xs : List (List ℕ)) → length (next_lead [] xs) ≡ 0 → or_star xs ≡ led [] xs ++ codes "*"
star-none [] e = refl
star-none (x ∷ xs) e = absurd (omega arith)

pub star-some : (xs : List (List ℕ)) → 0 < length (next_lead [] xs) → or_star xs ≡ led [] xs
star-some [] h = absurd (omega arith)
star-some (x ∷ xs) h = joined-led x xs

pub joined-more : (x : List ℕ) (actions : List Action) → joined (codes " + ") (x ∷ map action_text actions) ≡ x ++ more_text actions
joined-more x [] = sym (append-nil x)
joined-more x (a ∷ actions) = ap (λ l. (x ++ codes " + ") ++ l) (joined-more (action_text a) actions) ∙ behind x (codes " + ") (action_text a) (more_text actions)

-- the first action and those behind it
pub actions-first : (actions : List Action) (d : Action) → 0 < length actions → or_none (map action_text actions) ≡ action_text (get_or actions 0 d) ++ more_text (take (length actions - 1) (drop 1 actions))
actions-first [] d some = absurd (omega arith)
actions-first (a ∷ actions) d some = joined-more (action_text a) actions ∙ ap (λ l. action_text a ++ more_text l) (sym (take_rest (a ∷ actions) 1))

-- a prefix that is not any
pub prefix-some : (name : List ℕ) (p : Prefix) → p.len ≢ 0 → prefix_field name p ≡ (name ++ codes "=" ++ prefix_text p) ∷ []
prefix-some name p some = cond-false _ _ _ (ne_eqb p.len 0 some)

pub ruleset star_rules = (star-none, star-some, append_assoc)

pub ruleset action_rules = (joined-more, append_assoc)
