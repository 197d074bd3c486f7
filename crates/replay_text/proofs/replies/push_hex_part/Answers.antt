-- The digits are those of the library.
use Rattle.std.proofs.Common.{◌++◌, ap, ◌∙◌, List, ℕ, Result, Ok, Err, arith, rules}
use Rattle.std.proofs.lemmas.List.{length-take-le}
use Rattle.std.specs.Prelude.{IsOk, OnOk}
use Rattle.replay_text.proofs.HexFields.{hex_text-encode}
use Rattle.replay_text.proofs.replies.push_hex_part.Goals as goal

-- what a result that is good says
on_ok : {T E : Type 0} (r : Result T E) (P : Type 0) → IsOk r → OnOk r P → P
on_ok (Ok x) P is h = h
on_ok (Err e) P is h = cc

pub returns : goal.returns
returns c =
    let good : IsOk c.encode_to_slice.result = c.encode_to_slice.ensures.fits.1 (search (rules, arith, length-take-le)) in
    c.in_ok-extend_from_slice.ensures.items
    ∙ ap (λ (digits : List ℕ). c.args.text.now.items ++ digits) (on_ok c.encode_to_slice.result _ good c.encode_to_slice.ensures.written ∙ hex_text-encode c.args.part.now (λ k. (c.type_inv.part k).fits))
