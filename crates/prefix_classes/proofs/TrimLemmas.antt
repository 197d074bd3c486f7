-- Trimmed signatures: the tags stay as they are, and each signature is trimmed.
use Rattle.std.proofs.Common.{◌≡◌, true, List, map, sym, ap, subst, ◌∙◌, refl}
use Rattle.std.specs.Prelude.{Option, Some, None}
use Rattle.std.specs.FinMap.{FinMap, get}
use Rattle.std.specs.FinMap.Entries.{find, is_sorted}
use Rattle.std.specs.Option.{option_map}
use Rattle.net_types.specs.Keys.{prefix_cmp, tag_cmp}
use Rattle.net_types.specs.Signatures.{trimmed}
use Rattle.net_types.specs.declared.address.Pid.{Pid}
use Rattle.net_types.specs.declared.address.Tag.{Tag}
use Rattle.net_types.specs.declared.route.Part.{Part}
use Rattle.prefix_classes.proofs.CountLemmas.{get-sigs, sig_in}
use Rattle.prefix_classes.proofs.MappedLemmas.{find-mapped, sorted-mapped}
use Rattle.prefix_classes.specs.Counts.{IsCounted, members_of, sigs_of}
use Rattle.prefix_classes.specs.Trimmed.{trimmed_entry, trimmed_kept}
use Rattle.prefix_classes.specs.declared.members.Kept.{Kept}

module _ (who : Pid) (named : List Pid) where
  abbrev trim : Tag × Kept → Tag × Kept
  trim e = trimmed_entry who named e

  abbrev trim_kept : Kept → Kept
  trim_kept k = trimmed_kept who named k

  same_members : (o : Option Kept) → members_of (option_map trim_kept o) ≡ members_of o
  same_members None = refl
  same_members (Some k) = refl

  trimmed_sig : (o : Option Kept) → sig_in (option_map trim_kept o) ≡ option_map (trimmed who named) (sig_in o)
  trimmed_sig None = refl
  trimmed_sig (Some k) = refl

  counted_trimmed : (m : FinMap prefix_cmp Tag) (es : List (Tag × Kept)) → IsCounted m es → IsCounted m (map trim es)
  counted_trimmed m es is = record {
    sorted = sorted-mapped trim_kept es ∙ is.sorted;
    counts = λ t. ap members_of (find-mapped trim_kept t es) ∙ same_members (find tag_cmp t es) ∙ is.counts t;
  }

  get_trimmed : (es : List (Tag × Kept)) → is_sorted tag_cmp es ≡ true → (t : Tag) → get (sigs_of (map trim es)) t ≡ option_map (trimmed who named) (get (sigs_of es) t)
  get_trimmed es sorted t =
      get-sigs (map trim es) t (sorted-mapped trim_kept es ∙ sorted) ∙ ap sig_in (find-mapped trim_kept t es) ∙ trimmed_sig (find tag_cmp t es) ∙ ap (option_map (trimmed who named)) (sym (get-sigs es t sorted))

  pub counted_whole : (m : FinMap prefix_cmp Tag) (es fs : List (Tag × Kept)) → IsCounted m es → fs ≡ map trim es → IsCounted m fs
  counted_whole m es fs counts is = subst (IsCounted m) (sym is) (counted_trimmed m es counts)

  pub sigs_whole : (es fs : List (Tag × Kept)) (sigs : FinMap tag_cmp (List Part)) → is_sorted tag_cmp es ≡ true → sigs_of es ≡ sigs → fs ≡ map trim es → (t : Tag) → get (sigs_of fs) t ≡ option_map (trimmed who named) (get sigs t)
  sigs_whole es fs sigs sorted kept is t =
      ap (λ ds. get (sigs_of ds) t) is ∙ get_trimmed es sorted t ∙ ap (λ m. option_map (trimmed who named) (get m t)) kept
