use Rattle.std.proofs.Common.{All, arith}
use Rattle.std.proofs.lemmas.Bool.{eq-eqb, eqb-true}
use Rattle.std.proofs.lemmas.List.{take_rest}
use Rattle.std.proofs.lemmas.List.Elements.{All-from_get_or}
use Rattle.replay_text.proofs.PieceSplits.{IsNot, pieces_none, pieces_at_first, place_none, place_of_first}
use Rattle.replay_text.proofs.pieces.split_once.Goals as goal

pub returns-in-Some-clause-pieces : goal.returns-in-Some-clause-pieces
returns-in-Some-clause-pieces c =
    let text = c.args.text.now in
    let s = c.args.separator in
    let first = c.in-Some.ensures in
    let found = pieces_at_first s text c.in-Some.at first.0.high (eqb-true _ s first.1) (λ k below is. first.0.before k (omega arith) below (eq-eqb _ s is)) in
    rw (take_rest) found

pub returns-in-Some-clause-place : goal.returns-in-Some-clause-place
returns-in-Some-clause-place c =
    let s = c.args.separator in
    let first = c.in-Some.ensures in
    place_of_first s c.args.text.now c.in-Some.at first.0.high (eqb-true _ s first.1) (λ k below is. first.0.before k (omega arith) below (eq-eqb _ s is))

pub returns-in-None : goal.returns-in-None
returns-in-None c =
    let text = c.args.text.now in
    let s = c.args.separator in
    let none : All (IsNot s) text = All-from_get_or (IsNot s) text 0 (λ k below is. c.in-None.ensures k (omega arith) below (eq-eqb _ s is)) in
    record { pieces = pieces_none s text none; place = place_none s 0 text none; before = tt; behind = tt }
