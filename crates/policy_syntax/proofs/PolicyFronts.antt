-- Each front of a policy begins one.
use Rattle.std.proofs.Common.{ℕ, zero, suc, List, arith, refl}
use Rattle.std.specs.Prelude.{codes}
use Rattle.grammar.specs.Rules.{Rule, pure, run, ◌>>=◌}
use Rattle.grammar.specs.Tokens.{is_space, number}
use Rattle.grammar.specs.Exactness.{HasFronts}
use Rattle.net_types.specs.Policies.{Policy, Pred}
use Rattle.text_fields.proofs.PrefixExact.{prefix_fronts}
use Rattle.net_types.specs.PolicyGrammar.{target, field, test, assign, prim_with, lit_with, conj_with, pred_with, pred_group, fwd, match_with, assigned, modify, keyword, atom_with, chain_with, policy_with, policy_group, policy}
use Rattle.grammar.proofs.Fronts.{pure_fronts, place_fronts, never_fronts, word_fronts, run_fronts, either_fronts, both_fronts, many_fronts, name_fronts, number_fronts, sign_fronts, parens_fronts, groups_fronts, address_fronts}

target_fronts : HasFronts target
target_fronts = either_fronts _ _ (both_fronts _ _ name_fronts (λ n. pure_fronts _)) (both_fronts _ _ (number_fronts 1 65279 (omega arith) (omega arith)) (λ n. pure_fronts _))

field_fronts : {X Y : Type 0} (w : List ℕ) (value : Rule X) (make : X → Y) → HasFronts value → HasFronts (field w value make)
field_fronts w value make hv =
    both_fronts _ _ (word_fronts w) (λ _. both_fronts _ _ (run_fronts is_space) (λ _. both_fronts _ _ (sign_fronts (codes "=")) (λ _. both_fronts _ _ hv (λ x. pure_fronts _))))

port_fronts : HasFronts (number 0 65535)
port_fronts = number_fronts 0 65535 (omega arith) (omega arith)

test_fronts : HasFronts test
test_fronts =
    either_fronts _ _ (field_fronts _ _ _ (number_fronts 1 65279 (omega arith) (omega arith)))
    (either_fronts _ _ (field_fronts _ _ _ (number_fronts 0 255 (omega arith) (omega arith)))
    (either_fronts _ _ (either_fronts _ _ (field_fronts _ _ _ prefix_fronts) (field_fronts _ _ _ port_fronts)) (either_fronts _ _ (field_fronts _ _ _ prefix_fronts) (field_fronts _ _ _ port_fronts))))

assign_fronts : HasFronts assign
assign_fronts =
    either_fronts _ _ (either_fronts _ _ (field_fronts _ _ _ address_fronts) (field_fronts _ _ _ port_fronts)) (either_fronts _ _ (field_fronts _ _ _ address_fronts) (field_fronts _ _ _ port_fronts))

spaces_pure : {X : Type 0} (x : X) → HasFronts (run is_space >>= λ _. pure x)
spaces_pure x = both_fronts _ _ (run_fronts is_space) (λ _. pure_fronts x)

module _ (group : Rule Pred) (hg : HasFronts group) where
  prim_fronts : HasFronts (prim_with group)
  prim_fronts = either_fronts _ _ (both_fronts _ _ (word_fronts (codes "true")) (λ _. spaces_pure _)) (either_fronts _ _ hg (both_fronts _ _ place_fronts (λ s. both_fronts _ _ test_fronts (λ t. both_fronts _ _ place_fronts (λ e. spaces_pure _)))))

  lit_fronts : HasFronts (lit_with group)
  lit_fronts = either_fronts _ _ (both_fronts _ _ (sign_fronts (codes "!")) (λ _. both_fronts _ _ prim_fronts (λ p. pure_fronts _))) prim_fronts

  conj_fronts : HasFronts (conj_with group)
  conj_fronts = both_fronts _ _ lit_fronts (λ p. many_fronts _ _ p (both_fronts _ _ (either_fronts _ _ (sign_fronts (codes "&")) (sign_fronts (codes ","))) (λ _. lit_fronts)))

  pred_fronts : HasFronts (pred_with group)
  pred_fronts = both_fronts _ _ conj_fronts (λ p. many_fronts _ _ p (both_fronts _ _ (sign_fronts (codes "|")) (λ _. conj_fronts)))

pred_group_fronts : (d : ℕ) → HasFronts (pred_group d)
pred_group_fronts = groups_fronts pred_group (λ e. pred_with (pred_group e)) refl (λ e. refl) (λ d h. pred_fronts (pred_group d) h)

fwd_fronts : (start : ℕ) → HasFronts (fwd start)
fwd_fronts start =
    both_fronts _ _ (word_fronts (codes "fwd")) (λ _. both_fronts _ _ (run_fronts is_space) (λ _. both_fronts _ _ (sign_fronts (codes "(")) (λ _. both_fronts _ _ target_fronts (λ t.
    both_fronts _ _ (run_fronts is_space) (λ _. both_fronts _ _ (word_fronts (codes ")")) (λ _. both_fronts _ _ place_fronts (λ e. spaces_pure _)))))))

assigned_fronts : HasFronts assigned
assigned_fronts = both_fronts _ _ assign_fronts (λ f. spaces_pure f)

modify_fronts : (start : ℕ) → HasFronts (modify start)
modify_fronts start =
    both_fronts _ _ (word_fronts (codes "modify")) (λ _. both_fronts _ _ (run_fronts is_space) (λ _. both_fronts _ _ (sign_fronts (codes "(")) (λ _. both_fronts _ _ assigned_fronts (λ f.
    both_fronts _ _ (many_fronts _ _ _ (both_fronts _ _ (sign_fronts (codes ",")) (λ _. assigned_fronts))) (λ a. both_fronts _ _ (word_fronts (codes ")")) (λ _. both_fronts _ _ place_fronts (λ e. spaces_pure _)))))))

match_fronts : (group : Rule Pred) → HasFronts group → HasFronts (match_with group)
match_fronts group hg =
    both_fronts _ _ (word_fronts (codes "match")) (λ _. both_fronts _ _ (run_fronts is_space) (λ _. both_fronts _ _ (sign_fronts (codes "(")) (λ _. both_fronts _ _ (pred_fronts group hg) (λ p.
    both_fronts _ _ (sign_fronts (codes ")")) (λ _. pure_fronts _)))))

keyword_fronts : (w : List ℕ) (p : Policy) → HasFronts (keyword w p)
keyword_fronts w p = both_fronts _ _ (word_fronts w) (λ _. spaces_pure p)

module _ (inner : Rule Pred) (group : Rule Policy) (hi : HasFronts inner) (hg : HasFronts group) where
  atom_fronts : HasFronts (atom_with inner group)
  atom_fronts =
      both_fronts _ _ place_fronts (λ start. either_fronts _ _ (keyword_fronts _ _) (either_fronts _ _ (keyword_fronts _ _) (either_fronts _ _ (keyword_fronts _ _)
      (either_fronts _ _ (fwd_fronts start) (either_fronts _ _ (either_fronts _ _ (match_fronts inner hi) (modify_fronts start)) hg)))))

  chain_fronts : HasFronts (chain_with inner group)
  chain_fronts = both_fronts _ _ atom_fronts (λ p. many_fronts _ _ p (both_fronts _ _ (sign_fronts (codes ">>")) (λ _. atom_fronts)))

  sum_fronts : HasFronts (policy_with inner group)
  sum_fronts = both_fronts _ _ chain_fronts (λ p. many_fronts _ _ p (both_fronts _ _ (sign_fronts (codes "+")) (λ _. chain_fronts)))

policy_group_fronts : (d : ℕ) → HasFronts (policy_group d)
policy_group_fronts zero = never_fronts
policy_group_fronts (suc d) = parens_fronts _ (sum_fronts (pred_group d) (policy_group d) (pred_group_fronts d) (policy_group_fronts d))

pub policy_fronts : (d : ℕ) → HasFronts (policy d)
policy_fronts d = both_fronts _ _ (run_fronts is_space) (λ _. sum_fronts (pred_group d) (policy_group d) (pred_group_fronts d) (policy_group_fronts d))
