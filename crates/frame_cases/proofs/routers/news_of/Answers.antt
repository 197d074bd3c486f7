-- The message is the canonical one of the update.
use Rattle.std.proofs.Common.{◌∙◌, arith}
use Rattle.frame_cases.proofs.routers.news_of.Goals as goal

pub news-requires : goal.news-requires
news-requires c = record {
  update = c.args.update.now;
  is = record { sound = c.requires; short = omega arith; is = c.as_slice.ensures.value ∙ c.in_ok-message.ensures.canonical };
}
