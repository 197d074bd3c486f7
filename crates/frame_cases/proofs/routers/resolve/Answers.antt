-- The frame is the reply to this request.
use Rattle.std.proofs.Common.{rules}
use Rattle.frame_cases.proofs.routers.resolve.Goals as goal

pub hear_arp-requires-clause-reply : goal.hear_arp-requires-clause-reply
hear_arp-requires-clause-reply c = record {
  answer = record { asker = c.args.asker; ip = record { 0 = 2886729985 }; asked = c.args.target; mac = c.args.mac };
  is = record { asker_six = search rules; mac_six = search rules; is = c.reply.ensures };
}
