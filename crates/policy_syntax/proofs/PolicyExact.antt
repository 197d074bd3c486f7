-- Policies are read exactly.
use Rattle.std.proofs.Common.{◌≡◌, ℕ, Bool, true, false, List, [], ◌∷◌, refl, sym, ap, arith, inl, inr, eqb}
use Rattle.std.specs.Prelude.{◌⊎◌, ◌||◌, codes}
use Rattle.std.proofs.lemmas.Bool.{or_cases, eqb-true}
use Rattle.grammar.specs.Rules as rules
use Rattle.grammar.specs.Rules.{Rule, ◌>>=◌, place, pure, either, many, word}
use Rattle.grammar.specs.Tokens.{sign, spaces, is_space, is_digit, is_letter}
use Rattle.grammar.specs.TextReading.{Reader, read_either}
use Rattle.net_types.specs.Policies.{Pred, Yes, Is, Not, And, Or, Policy, Drop, Pass, Block, Fwd, Match, Set, Both, Then}
use Rattle.net_types.specs.declared.headers.Assign.{Assign}
use Rattle.net_types.specs.Headers.{no_change}
use Rattle.net_types.specs.PolicyGrammar.{span, with_field, target, test, truth, tested, prim_with, negation, lit_with, and_lit, or_conj, assigned, more_assigned, atom_from, then_atom, plus_chain, conj_with, pred_with, pred_group, fwd, match_with, modify, keyword, atom_with, chain_with, policy_with, policy_group, policy}
use Rattle.grammar.specs.Octets.{among}
use Rattle.net_types.specs.PolicyReading.{read_is, read_true, read_prim, read_not, read_lit, read_and, read_ands, read_conj, read_or, read_ors, read_pred, read_pred_group, read_fwd, read_match, read_assign_spaces, read_set, read_sets, read_modify, read_keyword, read_m, read_atom_from, read_atom, read_then, read_thens, read_chain, read_plus, read_pluses, read_policy, read_policy_group, read_start}
use Rattle.grammar.proofs.Exact.{both_exact}
use Rattle.grammar.specs.Exactness.{Family, IsExact}
use Rattle.grammar.proofs.Firsts.{Leads}
use Rattle.grammar.proofs.Firsts.{Heads, Heads-leads}
use Rattle.grammar.proofs.OctetKinds.{Apart, Within}
use Rattle.grammar.proofs.Nothing.{pure_exact, pure_leads, place_exact}
use Rattle.grammar.proofs.Runs.{run_leads}
use Rattle.grammar.proofs.Choices.{one_of, either_heads}
use Rattle.grammar.proofs.Repeats.{many_of, many_exact, many_leads}
use Rattle.grammar.proofs.OctetKinds.{any, among_within, among_apart}
use Rattle.grammar.proofs.Firsts.{any_leads, Heads-within, word_heads}
use Rattle.grammar.proofs.Exact.{both_heads, both_leads}
use Rattle.grammar.proofs.Words.{word_then}
use Rattle.grammar.proofs.Spaces.{spaces_then, sign_then, sign_exact, no_space}
use Rattle.grammar.proofs.Same.{Same, same_exact}
use Rattle.grammar.proofs.CommonFronts.{after, common_front}
use Rattle.grammar.proofs.Groups.{is_open}
use Rattle.grammar.proofs.Names.{name_heads}
use Rattle.grammar.proofs.Numbers.{number_heads}
use Rattle.grammar.proofs.Spaces.{digits_no_space}
use Rattle.policy_syntax.proofs.FieldsExact.{after_value, after_target, target_exact, test_heads, test_exact, assign_heads, assign_exact}
use Rattle.grammar.proofs.Choices.{pick}
use Rattle.grammar.proofs.Firsts.{headed}
use Rattle.grammar.proofs.Spaces.{sign_heads}
use Rattle.grammar.proofs.Spaces.{sign_opens, ends_exact, ends_leads, placed_exact, placed_leads, letters_no_space}
use Rattle.grammar.proofs.Firsts.{wider}
use Rattle.grammar.proofs.Nothing.{place_heads}
use Rattle.grammar.proofs.Groups.{groups_heads, groups_exact}

-- ---- what may stand behind each rule

abbrev after_lit : ℕ → Bool
after_lit = among (codes ")|&,")

abbrev after_conj : ℕ → Bool
after_conj = among (codes ")|")

abbrev after_pred : ℕ → Bool
after_pred = among (codes ")")

abbrev after_atom : ℕ → Bool
after_atom = among (codes ")+>")

abbrev after_chain : ℕ → Bool
after_chain = among (codes ")+")

abbrev pub after_policy : ℕ → Bool
after_policy = among (codes ")")

lit_no_space : Within after_lit no_space
lit_no_space = among_within (codes ")|&,") no_space refl

atom_no_space : Within after_atom no_space
atom_no_space = among_within (codes ")+>") no_space refl

-- ---- predicates

is_exact : (d : ℕ) → IsExact (λ e. tested) d after_lit read_is
unfolding read_is
is_exact d =
    both_exact (λ e. place) _ d any after_lit (λ start. any_leads _ after_lit) _ _ (place_exact d any)
    (λ start. both_exact (λ e. test) _ d after_value after_lit (λ t. placed_leads (λ end. Is t (span start end)) after_lit after_value refl (among_within (codes ")|&,") after_value refl)) _ _
    (test_exact d) (λ t. placed_exact (λ end. Is t (span start end)) d after_lit lit_no_space))

true_exact : (d : ℕ) → IsExact (λ e. truth) d after_lit read_true
unfolding read_true
true_exact d = word_then (codes "true") _ d after_lit _ (ends_exact Yes d after_lit lit_no_space)

module _ (group : Family Pred) (heads : Heads group is_open) where
  prim_heads : Heads (λ e. prim_with (group e)) (among (codes "t(ipsd"))
  prim_heads =
      either_heads _ _ (among (codes "t(ipsd")) (both_heads (λ e. word (codes "true")) _ (among (codes "t(ipsd")) (word_heads 116 (codes "rue") (among (codes "t(ipsd")) refl))
      (either_heads _ _ (among (codes "t(ipsd")) (wider group (codes "(") (codes "t(ipsd") refl heads)
      (place_heads _ (among (codes "t(ipsd")) (λ start. both_heads (λ e. test) _ (among (codes "t(ipsd")) (wider _ (codes "ipsd") (codes "t(ipsd") refl test_heads))))

  lit_heads : Heads (λ e. lit_with (group e)) (among (codes "!t(ipsd"))
  lit_heads = either_heads _ _ (among (codes "!t(ipsd")) (sign_heads 33 [] _ (among (codes "!t(ipsd")) refl) (wider _ (codes "t(ipsd") (codes "!t(ipsd") refl prim_heads)

  conj_heads : Heads (λ e. conj_with (group e)) (among (codes "!t(ipsd"))
  conj_heads = both_heads _ _ (among (codes "!t(ipsd")) lit_heads

  pub pred_heads : Heads (λ e. pred_with (group e)) (among (codes "!t(ipsd"))
  pred_heads = both_heads _ _ (among (codes "!t(ipsd")) conj_heads

  module _ (d : ℕ) (rg : Reader Pred) (exact : IsExact group d after_lit rg) where
    prim_exact : IsExact (λ e. prim_with (group e)) d after_lit (read_prim rg)
    unfolding read_prim
    prim_exact =
        pick _ _ d (codes "t") (codes "(ipsd") after_lit _ _ refl (both_heads (λ e. word (codes "true")) _ (among (codes "t")) (word_heads 116 (codes "rue") (among (codes "t")) refl))
        (either_heads _ _ (among (codes "(ipsd")) (wider group (codes "(") (codes "(ipsd") refl heads)
        (place_heads _ (among (codes "(ipsd")) (λ start. both_heads (λ e. test) _ (among (codes "(ipsd")) (wider _ (codes "ipsd") (codes "(ipsd") refl test_heads))))
        (true_exact d)
        (pick _ _ d (codes "(") (codes "ipsd") after_lit _ _ refl heads (place_heads _ (among (codes "ipsd")) (λ start. both_heads (λ e. test) _ (among (codes "ipsd")) test_heads)) exact (is_exact d))

    not_exact : IsExact (λ e. negation (group e)) d after_lit (read_not rg)
    unfolding read_not
    not_exact =
        sign_then (codes "!") _ d after_lit _ (headed _ (codes "t(ipsd") after_lit no_space refl (both_heads _ _ (among (codes "t(ipsd")) prim_heads))
        (both_exact (λ e. prim_with (group e)) _ d after_lit after_lit (λ p. pure_leads (Not p) after_lit after_lit (λ c h. h)) _ _ prim_exact (λ p. pure_exact (Not p) d after_lit))

    lit_exact : IsExact (λ e. lit_with (group e)) d after_lit (read_lit rg)
    unfolding read_lit
    lit_exact = pick _ _ d (codes "!") (codes "t(ipsd") after_lit _ _ refl (sign_heads 33 [] _ (among (codes "!")) refl) prim_heads not_exact prim_exact

    and_apart : Apart (among (codes "&,")) after_conj
    and_apart = among_apart (codes "&,") after_conj refl

    and_opens : (at c : ℕ) → among (codes "&,") c ≡ true → (and_lit (group d)).Begins at (c ∷ [])
    unfolding ◌>>=◌
    and_opens at c h = go (or_cases (eqb c 38) (eqb c 44 || false) h)
      where
        comma : (eqb c 44 ≡ true) ⊎ (false ≡ true) → (and_lit (group d)).Begins at (c ∷ [])
        comma (inl e) = let same : c ≡ 44 = eqb-true c 44 e in inl (inr (inl ([], ap (λ (z : ℕ). z ∷ []) (sym same))))
        comma (inr e) = absurd cc

        go : (eqb c 38 ≡ true) ⊎ ((eqb c 44 || false) ≡ true) → (and_lit (group d)).Begins at (c ∷ [])
        go (inl e) = let same : c ≡ 38 = eqb-true c 38 e in inl (inl (inl ([], ap (λ (z : ℕ). z ∷ []) (sym same))))
        go (inr e) = comma (or_cases (eqb c 44) false e)

    and_sign_heads : Heads (one_of (λ e. sign (codes "&")) (λ e. sign (codes ","))) (among (codes "&,"))
    and_sign_heads = either_heads _ _ (among (codes "&,")) (both_heads _ _ (among (codes "&,")) (word_heads 38 [] (among (codes "&,")) refl)) (both_heads _ _ (among (codes "&,")) (word_heads 44 [] (among (codes "&,")) refl))

    and_exact : IsExact (λ e. and_lit (group e)) d after_lit (read_and rg)
    unfolding read_and
    and_exact =
        both_exact _ _ d no_space after_lit (λ _. headed _ (codes "!t(ipsd") after_lit no_space refl lit_heads) _ _
        (pick _ _ d (codes "&") (codes ",") no_space _ _ refl (both_heads _ _ (among (codes "&")) (word_heads 38 [] (among (codes "&")) refl)) (both_heads _ _ (among (codes ",")) (word_heads 44 [] (among (codes ",")) refl))
        (sign_exact (codes "&") d) (sign_exact (codes ",") d))
        (λ _. lit_exact)

    and_heads : Heads (λ e. and_lit (group e)) (among (codes "&,"))
    and_heads = both_heads _ _ (among (codes "&,")) and_sign_heads

    and_within : Within (among (codes "&,")) after_lit
    and_within = among_within (codes "&,") after_lit refl

    conj_within : Within after_conj after_lit
    conj_within = among_within (codes ")|") after_lit refl

    conj_exact : IsExact (λ e. conj_with (group e)) d after_conj (read_conj rg)
    unfolding read_conj read_ands
    conj_exact =
        both_exact _ _ d after_lit after_conj
        (λ first. many_leads And _ d (among (codes "&,")) after_lit after_conj and_heads and_apart and_opens and_within conj_within (read_and rg) and_exact first) _ _
        lit_exact (λ first. many_exact And _ d (among (codes "&,")) after_lit after_conj and_heads and_apart and_opens and_within conj_within (read_and rg) and_exact first)

    or_exact : IsExact (λ e. or_conj (group e)) d after_conj (read_or rg)
    unfolding read_or
    or_exact = sign_then (codes "|") _ d after_conj _ (headed _ (codes "!t(ipsd") after_conj no_space refl conj_heads) conj_exact

    or_heads : Heads (λ e. or_conj (group e)) (among (codes "|"))
    or_heads = sign_heads 124 [] _ (among (codes "|")) refl

    or_apart : Apart (among (codes "|")) after_pred
    or_apart = among_apart (codes "|") after_pred refl

    or_opens : (at c : ℕ) → among (codes "|") c ≡ true → (or_conj (group d)).Begins at (c ∷ [])
    or_opens at c h = sign_opens 124 [] (conj_with (group d)) at c h

    or_within : Within (among (codes "|")) after_conj
    or_within = among_within (codes "|") after_conj refl

    pred_within : Within after_pred after_conj
    pred_within = among_within (codes ")") after_conj refl

    pub pred_exact : IsExact (λ e. pred_with (group e)) d after_pred (read_pred rg)
    unfolding read_pred read_ors
    pred_exact =
        both_exact _ _ d after_conj after_pred
        (λ first. many_leads Or _ d (among (codes "|")) after_conj after_pred or_heads or_apart or_opens or_within pred_within (read_or rg) or_exact first) _ _
        conj_exact (λ first. many_exact Or _ d (among (codes "|")) after_conj after_pred or_heads or_apart or_opens or_within pred_within (read_or rg) or_exact first)

-- ---- groups

pub pred_group_heads : Heads pred_group is_open
pred_group_heads = groups_heads pred_group (λ e. pred_with (pred_group e)) refl (λ e. refl)

pub pred_group_exact : (d : ℕ) → IsExact pred_group d after_lit (read_pred_group d)
unfolding read_pred_group
pred_group_exact =
    groups_exact pred_group (λ e. pred_with (pred_group e)) refl (λ e. refl) (codes "!t(ipsd") after_lit read_pred_group (λ d. read_pred (read_pred_group d)) refl (λ d. refl) refl lit_no_space
    (pred_heads pred_group pred_group_heads) (λ d exact. pred_exact pred_group pred_group_heads d _ exact)

-- ---- policies

target_heads : Heads (λ e. target) no_space
target_heads =
    either_heads _ _ no_space (both_heads _ _ no_space (Heads-within _ is_letter no_space letters_no_space name_heads))
    (both_heads _ _ no_space (Heads-within _ is_digit no_space digits_no_space (number_heads 1 65279 (omega arith) (omega arith))))

fwd_exact : (start d : ℕ) → IsExact (λ e. fwd start) d after_atom (read_fwd start)
unfolding read_fwd
fwd_exact start d =
    word_then (codes "fwd") _ d after_atom _ (spaces_then _ d after_atom _ (headed _ (codes "(") after_atom no_space refl (sign_heads 40 [] _ (among (codes "(")) refl))
    (sign_then (codes "(") _ d after_atom _ (Heads-leads _ no_space after_atom no_space (λ c h. h) (both_heads _ _ no_space target_heads))
    (both_exact _ _ d after_target after_atom
    (λ t. both_leads _ _ after_atom (among (codes ")")) after_target
    (run_leads is_space (among (codes ")")) after_target (λ c h. ap after_target (eqb-true c 32 h)) (among_within (codes ")") after_target refl))
    (λ _. headed _ (codes ")") after_atom (among (codes ")")) refl (both_heads _ _ (among (codes ")")) (word_heads 41 [] (among (codes ")")) refl)))) _ _
    (target_exact d)
    (λ t. spaces_then _ d after_atom _ (headed _ (codes ")") after_atom no_space refl (both_heads _ _ (among (codes ")")) (word_heads 41 [] (among (codes ")")) refl)))
    (word_then (codes ")") _ d after_atom _ (placed_exact (λ end. Fwd t (span start end)) d after_atom atom_no_space))))))

-- behind an assignment
abbrev after_assigned : ℕ → Bool
after_assigned = among (codes "),")

assigned_exact : (d : ℕ) → IsExact (λ e. assigned) d after_assigned read_assign_spaces
unfolding read_assign_spaces
assigned_exact d =
    both_exact _ _ d after_value after_assigned (λ f. ends_leads f after_assigned after_value refl (among_within (codes "),") after_value refl)) _ _
    (assign_exact d) (λ f. ends_exact f d after_assigned (among_within (codes "),") no_space refl))

more_exact : (d : ℕ) → IsExact (λ e. more_assigned) d after_assigned read_set
unfolding read_set
more_exact d = sign_then (codes ",") _ d after_assigned _ (headed _ (codes "sd") after_assigned no_space refl (both_heads _ _ (among (codes "sd")) assign_heads)) (assigned_exact d)

more_heads : Heads (λ e. more_assigned) (among (codes ","))
more_heads = sign_heads 44 [] _ (among (codes ",")) refl

more_opens : (d at c : ℕ) → among (codes ",") c ≡ true → more_assigned.Begins at (c ∷ [])
more_opens d at c h = sign_opens 44 [] assigned at c h

module _ (start d : ℕ) where
  sets_leads : (first : Assign) → Leads (many_of with_field (λ e. more_assigned) first) (among (codes ")")) after_assigned
  sets_leads first = many_leads with_field _ d (among (codes ",")) after_assigned (among (codes ")")) more_heads (among_apart (codes ",") (among (codes ")")) refl) (more_opens d)
      (among_within (codes ",") after_assigned refl) (among_within (codes ")") after_assigned refl) read_set (more_exact d) first

  sets_exact : (first : Assign) → IsExact (many_of with_field (λ e. more_assigned) first) d (among (codes ")")) (read_sets first)
  unfolding read_sets
  sets_exact first = many_exact with_field _ d (among (codes ",")) after_assigned (among (codes ")")) more_heads (among_apart (codes ",") (among (codes ")")) refl) (more_opens d)
      (among_within (codes ",") after_assigned refl) (among_within (codes ")") after_assigned refl) read_set (more_exact d) first

  -- modify behind its first letter
  modify_tail : Rule Policy
  modify_tail = rules.◌>>◌ spaces (rules.◌>>◌ (sign (codes "(")) (assigned >>= λ first. many with_field more_assigned (with_field no_change first) >>= λ all.
      rules.◌>>◌ (word (codes ")")) (place >>= λ end. rules.◌>>◌ spaces (pure (Set all (span start end))))))

  modify_exact : IsExact (after (codes "odify") (λ e. modify_tail)) d after_atom (read_modify start)
  unfolding read_modify modify_tail
  modify_exact =
      word_then (codes "odify") _ d after_atom _ (spaces_then _ d after_atom _ (headed _ (codes "(") after_atom no_space refl (sign_heads 40 [] _ (among (codes "(")) refl))
      (sign_then (codes "(") _ d after_atom _ (headed _ (codes "sd") after_atom no_space refl (both_heads _ _ (among (codes "sd")) (both_heads _ _ (among (codes "sd")) assign_heads)))
      (both_exact _ _ d after_assigned after_atom
      (λ first. both_leads _ _ after_atom (among (codes ")")) after_assigned (sets_leads (with_field no_change first))
      (λ all. headed _ (codes ")") after_atom (among (codes ")")) refl (both_heads _ _ (among (codes ")")) (word_heads 41 [] (among (codes ")")) refl)))) _ _
      (assigned_exact d)
      (λ first. both_exact _ _ d (among (codes ")")) after_atom
      (λ all. headed _ (codes ")") after_atom (among (codes ")")) refl (both_heads _ _ (among (codes ")")) (word_heads 41 [] (among (codes ")")) refl))) _ _
      (sets_exact (with_field no_change first))
      (λ all. word_then (codes ")") _ d after_atom _ (placed_exact (λ end. Set all (span start end)) d after_atom atom_no_space))))))

module _ (inner : Family Pred) (inner_heads : Heads inner is_open) where
  -- match behind its first letter
  match_tail : Family Policy
  match_tail e = rules.◌>>◌ spaces (rules.◌>>◌ (sign (codes "(")) (pred_with (inner e) >>= λ p. rules.◌>>◌ (sign (codes ")")) (pure (Match p))))

  match_exact : (d : ℕ) (ri : Reader Pred) → IsExact inner d after_lit ri → IsExact (after (codes "atch") match_tail) d after_atom (read_match ri)
  unfolding read_match match_tail
  match_exact d ri exact =
      word_then (codes "atch") _ d after_atom _ (spaces_then _ d after_atom _ (headed _ (codes "(") after_atom no_space refl (sign_heads 40 [] _ (among (codes "(")) refl))
      (sign_then (codes "(") _ d after_atom _ (headed _ (codes "!t(ipsd") after_atom no_space refl (both_heads _ _ (among (codes "!t(ipsd")) (pred_heads inner inner_heads)))
      (both_exact _ _ d after_pred after_atom (λ p. headed _ (codes ")") after_atom after_pred refl (sign_heads 41 [] _ (among (codes ")")) refl)) _ _
      (pred_exact inner inner_heads d ri exact)
      (λ p. sign_then (codes ")") _ d after_atom _ (pure_leads (Match p) after_atom no_space atom_no_space) (pure_exact (Match p) d after_atom)))))

  m_rule : ℕ → Family Policy
  m_rule start e = either (match_with (inner e)) (modify start)

  m_heads : (start : ℕ) → Heads (λ e. either (match_with (inner e)) (modify start)) (among (codes "m"))
  m_heads start = either_heads _ _ (among (codes "m")) (both_heads (λ e. word (codes "match")) _ (among (codes "m")) (word_heads 109 (codes "atch") (among (codes "m")) refl))
      (both_heads (λ e. word (codes "modify")) _ (among (codes "m")) (word_heads 109 (codes "odify") (among (codes "m")) refl))

  m_same : (start : ℕ) → Same (after (codes "m") (one_of (after (codes "atch") match_tail) (after (codes "odify") (λ e. modify_tail start 0)))) (λ e. either (match_with (inner e)) (modify start))
  unfolding match_tail modify_tail
  m_same start = common_front (codes "m") (codes "atch") (codes "odify") match_tail (λ e. modify_tail start 0)

  m_exact : (start d : ℕ) (ri : Reader Pred) → IsExact inner d after_lit ri → IsExact (λ e. either (match_with (inner e)) (modify start)) d after_atom (read_m ri start)
  unfolding read_m modify_tail
  m_exact start d ri exact =
      same_exact _ _ d after_atom _ (m_same start)
      (word_then (codes "m") _ d after_atom _
      (pick _ _ d (codes "a") (codes "o") after_atom _ _ refl (both_heads (λ e. word (codes "atch")) _ (among (codes "a")) (word_heads 97 (codes "tch") (among (codes "a")) refl))
      (both_heads (λ e. word (codes "odify")) _ (among (codes "o")) (word_heads 111 (codes "dify") (among (codes "o")) refl))
      (match_exact d ri exact) (modify_exact start d)))

  keyword_exact : (w : List ℕ) (p : Policy) (d : ℕ) → IsExact (λ e. keyword w p) d after_atom (read_keyword w p)
  unfolding read_keyword
  keyword_exact w p d = word_then w _ d after_atom _ (ends_exact p d after_atom atom_no_space)

  keyword_heads : (c : ℕ) (w : List ℕ) (p : Policy) (to : ℕ → Bool) → to c ≡ true → Heads (λ e. keyword (c ∷ w) p) to
  keyword_heads c w p to t = both_heads (λ e. word (c ∷ w)) _ to (word_heads c w to t)

  fwd_heads : (start : ℕ) (to : ℕ → Bool) → to 102 ≡ true → Heads (λ e. fwd start) to
  fwd_heads start to t = both_heads (λ e. word (codes "fwd")) _ to (word_heads 102 (codes "wd") to t)

  module _ (group : Family Policy) (heads : Heads group is_open) where
    atom_from_heads : (start : ℕ) → Heads (λ e. atom_from (inner e) (group e) start) (among (codes "dpbfm("))
    atom_from_heads start =
        either_heads _ _ (among (codes "dpbfm(")) (keyword_heads 100 (codes "rop") Drop (among (codes "dpbfm(")) refl)
        (either_heads _ _ (among (codes "dpbfm(")) (keyword_heads 112 (codes "ass") Pass (among (codes "dpbfm(")) refl)
        (either_heads _ _ (among (codes "dpbfm(")) (keyword_heads 98 (codes "lock") Block (among (codes "dpbfm(")) refl)
        (either_heads _ _ (among (codes "dpbfm(")) (fwd_heads start (among (codes "dpbfm(")) refl)
        (either_heads _ _ (among (codes "dpbfm(")) (wider _ (codes "m") (codes "dpbfm(") refl (m_heads start)) (wider group (codes "(") (codes "dpbfm(") refl heads)))))

    atom_heads : Heads (λ e. atom_with (inner e) (group e)) (among (codes "dpbfm("))
    atom_heads = place_heads _ (among (codes "dpbfm(")) atom_from_heads

    chain_heads : Heads (λ e. chain_with (inner e) (group e)) (among (codes "dpbfm("))
    chain_heads = both_heads _ _ (among (codes "dpbfm(")) atom_heads

    pub policy_heads : Heads (λ e. policy_with (inner e) (group e)) (among (codes "dpbfm("))
    policy_heads = both_heads _ _ (among (codes "dpbfm(")) chain_heads

    module _ (d : ℕ) (ri : Reader Pred) (rg : Reader Policy) (inner_exact : IsExact inner d after_lit ri) (exact : IsExact group d after_atom rg) where
      -- the choices, from the last
      ends_choice_exact : (start : ℕ) → IsExact (λ e. either (either (match_with (inner e)) (modify start)) (group e)) d after_atom (read_either (among (codes "m")) (read_m ri start) rg)
      ends_choice_exact start = pick _ _ d (codes "m") (codes "(") after_atom _ _ refl (m_heads start) heads (m_exact start d ri inner_exact) exact

      ends_choice_heads : (start : ℕ) → Heads (λ e. either (either (match_with (inner e)) (modify start)) (group e)) (among (codes "m("))
      ends_choice_heads start = either_heads _ _ (among (codes "m(")) (wider _ (codes "m") (codes "m(") refl (m_heads start)) (wider group (codes "(") (codes "m(") refl heads)

      atom_from_exact : (start : ℕ) → IsExact (λ e. atom_from (inner e) (group e) start) d after_atom (read_atom_from ri rg start)
      unfolding read_atom_from
      atom_from_exact start =
          pick _ _ d (codes "d") (codes "pbfm(") after_atom _ _ refl (keyword_heads 100 (codes "rop") Drop (among (codes "d")) refl)
          (either_heads _ _ (among (codes "pbfm(")) (keyword_heads 112 (codes "ass") Pass (among (codes "pbfm(")) refl)
          (either_heads _ _ (among (codes "pbfm(")) (keyword_heads 98 (codes "lock") Block (among (codes "pbfm(")) refl)
          (either_heads _ _ (among (codes "pbfm(")) (fwd_heads start (among (codes "pbfm(")) refl) (wider _ (codes "m(") (codes "pbfm(") refl (ends_choice_heads start)))))
          (keyword_exact (codes "drop") Drop d)
          (pick _ _ d (codes "p") (codes "bfm(") after_atom _ _ refl (keyword_heads 112 (codes "ass") Pass (among (codes "p")) refl)
          (either_heads _ _ (among (codes "bfm(")) (keyword_heads 98 (codes "lock") Block (among (codes "bfm(")) refl)
          (either_heads _ _ (among (codes "bfm(")) (fwd_heads start (among (codes "bfm(")) refl) (wider _ (codes "m(") (codes "bfm(") refl (ends_choice_heads start))))
          (keyword_exact (codes "pass") Pass d)
          (pick _ _ d (codes "b") (codes "fm(") after_atom _ _ refl (keyword_heads 98 (codes "lock") Block (among (codes "b")) refl)
          (either_heads _ _ (among (codes "fm(")) (fwd_heads start (among (codes "fm(")) refl) (wider _ (codes "m(") (codes "fm(") refl (ends_choice_heads start)))
          (keyword_exact (codes "block") Block d)
          (pick (λ e. fwd start) _ d (codes "f") (codes "m(") after_atom (read_fwd start) _ refl (fwd_heads start (among (codes "f")) refl) (ends_choice_heads start) (fwd_exact start d) (ends_choice_exact start))))

      atom_exact : IsExact (λ e. atom_with (inner e) (group e)) d after_atom (read_atom ri rg)
      unfolding read_atom
      atom_exact = both_exact (λ e. place) _ d any after_atom (λ start. any_leads _ after_atom) _ _ (place_exact d any) atom_from_exact

      then_exact : IsExact (λ e. then_atom (inner e) (group e)) d after_atom (read_then ri rg)
      unfolding read_then
      then_exact = sign_then (codes ">>") _ d after_atom _ (headed _ (codes "dpbfm(") after_atom no_space refl atom_heads) atom_exact

      then_heads : Heads (λ e. then_atom (inner e) (group e)) (among (codes ">"))
      then_heads = sign_heads 62 (codes ">") _ (among (codes ">")) refl

      then_apart : Apart (among (codes ">")) after_chain
      then_apart = among_apart (codes ">") after_chain refl

      then_opens : (at c : ℕ) → among (codes ">") c ≡ true → (then_atom (inner d) (group d)).Begins at (c ∷ [])
      then_opens at c h = sign_opens 62 (codes ">") (atom_with (inner d) (group d)) at c h

      then_within : Within (among (codes ">")) after_atom
      then_within = among_within (codes ">") after_atom refl

      chain_within : Within after_chain after_atom
      chain_within = among_within (codes ")+") after_atom refl

      chain_exact : IsExact (λ e. chain_with (inner e) (group e)) d after_chain (read_chain ri rg)
      unfolding read_chain read_thens
      chain_exact =
          both_exact _ _ d after_atom after_chain
          (λ first. many_leads Then _ d (among (codes ">")) after_atom after_chain then_heads then_apart then_opens then_within chain_within (read_then ri rg) then_exact first) _ _
          atom_exact (λ first. many_exact Then _ d (among (codes ">")) after_atom after_chain then_heads then_apart then_opens then_within chain_within (read_then ri rg) then_exact first)

      plus_exact : IsExact (λ e. plus_chain (inner e) (group e)) d after_chain (read_plus ri rg)
      unfolding read_plus
      plus_exact = sign_then (codes "+") _ d after_chain _ (headed _ (codes "dpbfm(") after_chain no_space refl chain_heads) chain_exact

      plus_heads : Heads (λ e. plus_chain (inner e) (group e)) (among (codes "+"))
      plus_heads = sign_heads 43 [] _ (among (codes "+")) refl

      plus_apart : Apart (among (codes "+")) after_policy
      plus_apart = among_apart (codes "+") after_policy refl

      plus_opens : (at c : ℕ) → among (codes "+") c ≡ true → (plus_chain (inner d) (group d)).Begins at (c ∷ [])
      plus_opens at c h = sign_opens 43 [] (chain_with (inner d) (group d)) at c h

      plus_within : Within (among (codes "+")) after_chain
      plus_within = among_within (codes "+") after_chain refl

      policy_within : Within after_policy after_chain
      policy_within = among_within (codes ")") after_chain refl

      pub policy_exact : IsExact (λ e. policy_with (inner e) (group e)) d after_policy (read_policy ri rg)
      unfolding read_policy read_pluses
      policy_exact =
          both_exact _ _ d after_chain after_policy
          (λ first. many_leads Both _ d (among (codes "+")) after_chain after_policy plus_heads plus_apart plus_opens plus_within policy_within (read_plus ri rg) plus_exact first) _ _
          chain_exact (λ first. many_exact Both _ d (among (codes "+")) after_chain after_policy plus_heads plus_apart plus_opens plus_within policy_within (read_plus ri rg) plus_exact first)

policy_group_heads : Heads policy_group is_open
policy_group_heads = groups_heads policy_group (λ e. policy_with (pred_group e) (policy_group e)) refl (λ e. refl)

pub policy_group_exact : (d : ℕ) → IsExact policy_group d after_atom (read_policy_group d)
unfolding read_policy_group
policy_group_exact =
    groups_exact policy_group (λ e. policy_with (pred_group e) (policy_group e)) refl (λ e. refl) (codes "dpbfm(") after_atom read_policy_group (λ d. read_policy (read_pred_group d) (read_policy_group d)) refl (λ d. refl) refl atom_no_space
    (policy_heads pred_group pred_group_heads policy_group policy_group_heads) (λ d exact. policy_exact pred_group pred_group_heads policy_group policy_group_heads d _ _ (pred_group_exact d) exact)

pub start_exact : (d : ℕ) → IsExact policy d after_policy (read_start d)
unfolding read_start
start_exact d =
    spaces_then _ d after_policy _ (headed _ (codes "dpbfm(") after_policy no_space refl (policy_heads pred_group pred_group_heads policy_group policy_group_heads))
    (policy_exact pred_group pred_group_heads policy_group policy_group_heads d _ _ (pred_group_exact d) (policy_group_exact d))
