use Rattle.std.proofs.Common.{◌∙◌, ap, sym, Some}
use Rattle.classifier.specs.declared.joins.Pair.{Pair}
use Rattle.classifier.specs.Items.{add_all}
use Rattle.classifier.specs.Numbered.{list_at}
use Rattle.classifier.proofs.NumberLemmas.{list_read, unions_kept, unions_noted}
use Rattle.classifier.proofs.joins.Joins.number_of.Goals as goal

pub returns-in-Some-clause-number : goal.returns-in-Some-clause-number
returns-in-Some-clause-number c = c.args.self.now.are (record { first = c.args.first; second = c.args.second }) c.in-Some.number.now (sym c.in-Some.ensures.value)

pub invariant_of-self-in-Break-branch-2 : goal.invariant_of-self-in-Break-branch-2
invariant_of-self-in-Break-branch-2 c = record {
  are = unions_kept c.args.self.now.firsts.now c.args.self.now.seconds.now c.args.self.now.made c.args.self.now.table.lists.items c.put.new.self.lists.items c.put.ensures.kept c.args.self.now.are;
}

pub returns-clause-number : goal.returns-clause-number
returns-clause-number c =
    let firsts = c.args.self.now.firsts.now in
    let seconds = c.args.self.now.seconds.now in
    c.in_ok-number.ensures.number
    ∙ ap Some (c.in_ok-both.ensures
    ∙ ap (λ xs. add_all xs c.index-seconds-second.result) (list_read firsts c.args.first c.index-firsts-first.result c.requires.first c.index-firsts-first.is)
    ∙ ap (add_all (list_at firsts c.args.first)) (list_read seconds c.args.second c.index-seconds-second.result c.requires.second c.index-seconds-second.is))

pub invariant_of-self-2 : goal.invariant_of-self-2
invariant_of-self-2 c =
    let firsts = c.args.self.now.firsts.now in
    let seconds = c.args.self.now.seconds.now in
    let lists = c.put.new.self.lists.items in
    let pair : Pair = record { first = c.args.first; second = c.args.second } in
    record {
      are = unions_noted firsts seconds c.args.self.now.made c.insert.new.self lists pair c.in_ok-number.number c.insert.result
          (unions_kept firsts seconds c.args.self.now.made c.args.self.now.table.lists.items lists c.in_ok-number.ensures.kept c.args.self.now.are)
          c.insert.ensures.updates c.insert.ensures.err
          (c.in_ok-number.ensures.number
          ∙ ap Some (c.in_ok-both.ensures
          ∙ ap (λ xs. add_all xs c.index-seconds-second.result) (list_read firsts c.args.first c.index-firsts-first.result c.requires.first c.index-firsts-first.is)
          ∙ ap (add_all (list_at firsts c.args.first)) (list_read seconds c.args.second c.index-seconds-second.result c.requires.second c.index-seconds-second.is)));
    }
