use Rattle.std.proofs.Common.{◌≤◌, length, rules}
use Rattle.std.proofs.Math.ListN.{drop_of_length-le}
use Rattle.replay_text.proofs.front.Front.clear.Goals as goal

pub returns : goal.returns
returns c =
    let all : length c.self.inside.octets ≤ 160 = search rules in
    drop_of_length-le c.self.inside.octets all
