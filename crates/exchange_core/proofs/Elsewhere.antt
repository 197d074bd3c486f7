-- What everybody but one was told of a tag.
use Rattle.std.proofs.Common.{◌≡◌, ℕ, zero, suc, ◌+◌, ◌<◌, ◌≤◌, ◌≢◌, true, false, ◌||◌, List, [], ◌∷◌, length, take, get_or, sym, ap, ◌∙◌, refl, arith}
use Rattle.std.specs.Prelude.{slice_get, slice_set, unwrap_or}
use Rattle.std.specs.FinMap.{FinMap, empty}
use Rattle.std.proofs.lemmas.List.{get_or-set_other, length-set, take_all, take_more}
use Rattle.std.proofs.lemmas.Option.{unwrap_or-slice_get}
use Rattle.events.specs.Tags.{tells}
use Rattle.events.specs.declared.Entry.{Entry}
use Rattle.exchange_laws.proofs.NewStates.{nothing_told}
use Rattle.fast_path.specs.Pairs.{Told, is_told}
use Rattle.net_types.proofs.FindLemmas.{any_at}
use Rattle.net_types.proofs.MemberLemmas.{Member-at}
use Rattle.net_types.proofs.PassLemmas.{any_more}
use Rattle.net_types.specs.Keys.{prefix_cmp}
use Rattle.net_types.specs.declared.address.Tag.{Tag}

abbrev Entries : Type 0
Entries = FinMap prefix_cmp Entry

read_set : {A : Type 0} (xs : List A) (k : ℕ) (d : A) → get_or (slice_set xs k d) k d ≡ d
read_set [] k d = refl
read_set (x ∷ xs) zero d = refl
read_set (x ∷ xs) (suc k) d = read_set xs k d

module _ (told : Told) (k : ℕ) (t : Tag) where
  abbrev others : Told
  others = slice_set told k empty

  -- whoever has the place was told nothing there
  pub same_place : (at : ℕ) → at ≡ k → tells (get_or others at empty) t ≡ false
  same_place at same = ap (λ n. tells (get_or others n empty) t) same ∙ ap (λ (es : Entries). tells es t) (read_set told k empty) ∙ nothing_told t

  pub other_place : (at : ℕ) → at ≢ k → tells (get_or others at empty) t ≡ tells (unwrap_or (slice_get told at) empty) t
  other_place at apart = ap (λ (es : Entries). tells es t) (get_or-set_other told k at empty empty apart ∙ sym (unwrap_or-slice_get told at empty))

  pub none_more : (at : ℕ) → at < length told → is_told (take at others) t ≡ false → tells (get_or others at empty) t ≡ false → is_told (take (at + 1) others) t ≡ false
  none_more at below none here =
      let within : at < length others = omega (arith, length-set told k (empty {K = _} {X = Entry} {R = prefix_cmp})) in
      ap (λ es. is_told es t) (take_more others at empty within) ∙ any_more (λ (es : Entries). tells es t) (take at others) (get_or others at empty)
      ∙ ap (λ b. b || tells (get_or others at empty) t) none ∙ here

  pub some_there : (at : ℕ) → at < length told → tells (get_or others at empty) t ≡ true → is_told others t ≡ true
  some_there at below there =
      let within : at < length others = omega (arith, length-set told k (empty {K = _} {X = Entry} {R = prefix_cmp})) in
      any_at (λ (es : Entries). tells es t) others (get_or others at empty) (Member-at others at empty (get_or others at empty) within refl) there

  pub none_left : (at : ℕ) → length told ≤ at → is_told (take at others) t ≡ false → is_told others t ≡ false
  none_left at all none =
      let all_of : length others ≤ at = omega (arith, length-set told k (empty {K = _} {X = Entry} {R = prefix_cmp})) in
      ap (λ es. is_told es t) (sym (take_all at others all_of)) ∙ none
