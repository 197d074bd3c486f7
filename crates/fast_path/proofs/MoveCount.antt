-- Of the prefixes whose tag becomes another, those that had none get one: they are all but those that had one.
use Rattle.std.proofs.Common.{◌≡◌, ℕ, suc, ◌+◌, ◌-◌, Bool, true, false, ◌&&◌, cond, not, List, [], ◌∷◌, ◌++◌, length, take, get_or, sym, ap, ◌∙◌, refl, arith, ◌<◌, append-nil}
use Rattle.std.specs.Prelude.{Option, Some, None, is_none, is_some, option_to_list}
use Rattle.std.specs.FinMap.{get}
use Rattle.std.specs.List.{cons_option}
use Rattle.std.proofs.lemmas.List.Elements.{filter_map-append, filter_more}
use Rattle.std.proofs.lemmas.List.Sums.{sum_by-cons}
use Rattle.events.specs.Tags.{same_tag}
use Rattle.events.specs.declared.TagChange.{TagChange}
use Rattle.fast_path.specs.Emptied.{old_tags}
use Rattle.fast_path.specs.Grouping.{Known}
use Rattle.fast_path.specs.Newly.{is_newly_tagged, newly_tagged}
use Rattle.fast_path.specs.Offers.{others}
use Rattle.net_types.specs.Attributes.{same_option}
use Rattle.net_types.specs.declared.address.Tag.{Tag}

one_more : (o o1 : Option Tag) → not (same_option same_tag o o1) ≡ true → (n : ℕ) (ts : List Tag) (l : ℕ) → n + length ts ≡ l → cond (is_none o && is_some o1) 1 0 + n + length (cons_option o ts) ≡ suc l
one_more None None differs n ts l e = cc
one_more None (Some t) differs n ts l e = omega (arith, e)
one_more (Some u) o1 differs n ts l e = omega (arith, e)

module _ (k : Known) where
  counted : (cs : List TagChange) → newly_tagged k.tag (others k cs) + length (old_tags k.tag (others k cs)) ≡ length (others k cs)
  counted [] = refl
  counted (c ∷ cs) = by (counted cs) (not (same_option same_tag (get k.tag c.prefix) c.tag)) refl
    where
      by : newly_tagged k.tag (others k cs) + length (old_tags k.tag (others k cs)) ≡ length (others k cs) → (b : Bool) → not (same_option same_tag (get k.tag c.prefix) c.tag) ≡ b → newly_tagged k.tag (cond b (c ∷ others k cs) (others k cs)) + length (old_tags k.tag (cond b (c ∷ others k cs) (others k cs))) ≡ length (cond b (c ∷ others k cs) (others k cs))
      by rest false same = rest
      by rest true differs =
          ap (λ n. n + length (old_tags k.tag (c ∷ others k cs))) (sum_by-cons (λ d. cond (is_newly_tagged k.tag d) 1 0) c (others k cs))
          ∙ one_more (get k.tag c.prefix) c.tag differs (newly_tagged k.tag (others k cs)) (old_tags k.tag (others k cs)) (length (others k cs)) rest

-- so many get a tag and had none
pub newly_count : (k : Known) (cs changes : List TagChange) (left : List Tag) → changes ≡ others k cs → left ≡ old_tags k.tag changes → length changes - length left ≡ newly_tagged k.tag changes
newly_count k cs changes left are had =
    let e : newly_tagged k.tag (others k cs) + length (old_tags k.tag (others k cs)) ≡ length (others k cs) = counted k cs in
    let d : length (others k cs) - length (old_tags k.tag (others k cs)) ≡ newly_tagged k.tag (others k cs) = omega (arith, e) in
    ap (λ ts. length changes - length ts) had ∙ ap (λ xs. length xs - length (old_tags k.tag xs)) are ∙ d ∙ ap (newly_tagged k.tag) (sym are)

-- one change more, with the tag that its prefix had
pub left_more : (k : Known) (xs now : List TagChange) (c : TagChange) (left new : List Tag) (o : Option Tag) → left ≡ old_tags k.tag xs → now ≡ xs ++ c ∷ [] → o ≡ get k.tag c.prefix → new ≡ left ++ option_to_list o → new ≡ old_tags k.tag now
left_more k xs now c left new o had more is so =
    so ∙ (λ i. had i ++ option_to_list (is i)) ∙ ap (λ ts. old_tags k.tag xs ++ ts) (as_list (get k.tag c.prefix))
    ∙ sym (filter_map-append (λ (d : TagChange). get k.tag d.prefix) xs (c ∷ []))
    ∙ ap (old_tags k.tag) (sym more)
  where
    as_list : (o : Option Tag) → option_to_list o ≡ cons_option o []
    as_list None = refl
    as_list (Some t) = refl

-- one prefix more, whose tag becomes another or stays
pub other_more : (k : Known) (cs : List TagChange) (i : ℕ) (c : TagChange) → i < length cs → c ≡ get_or cs i c → (xs : List TagChange) (o : Option Tag) (same : Bool) → o ≡ get k.tag c.prefix → same ≡ same_option same_tag o c.tag → same ≡ false
    → xs ≡ others k (take i cs) → xs ++ c ∷ [] ≡ others k (take (i + 1) cs)
other_more k cs i c within at xs o same is told tested so_far =
    ap (λ ys. ys ++ c ∷ []) so_far
    ∙ sym (filter_more (λ (d : TagChange). not (same_option same_tag (get k.tag d.prefix) d.tag)) cs i c within
    ∙ ap (λ d. others k (take i cs) ++ cond (not (same_option same_tag (get k.tag d.prefix) d.tag)) (d ∷ []) []) (sym at)
    ∙ ap (λ b. others k (take i cs) ++ cond (not b) (c ∷ []) []) (ap (λ p. same_option same_tag p c.tag) (sym is) ∙ sym told ∙ tested))

pub other_same : (k : Known) (cs : List TagChange) (i : ℕ) (c : TagChange) → i < length cs → c ≡ get_or cs i c → (xs : List TagChange) (o : Option Tag) (same : Bool) → o ≡ get k.tag c.prefix → same ≡ same_option same_tag o c.tag → same ≡ true
    → xs ≡ others k (take i cs) → xs ≡ others k (take (i + 1) cs)
other_same k cs i c within at xs o same is told tested so_far =
    so_far
    ∙ sym (filter_more (λ (d : TagChange). not (same_option same_tag (get k.tag d.prefix) d.tag)) cs i c within
    ∙ ap (λ d. others k (take i cs) ++ cond (not (same_option same_tag (get k.tag d.prefix) d.tag)) (d ∷ []) []) (sym at)
    ∙ ap (λ b. others k (take i cs) ++ cond (not b) (c ∷ []) []) (ap (λ p. same_option same_tag p c.tag) (sym is) ∙ sym told ∙ tested)
    ∙ append-nil (others k (take i cs)))
