use Rattle.swid_run.proofs.Saying.{orders_collect, orders_follow, split_words}
use Rattle.swid_run.proofs.order.order_of.Goals as goal

pub returns-in-collect : goal.returns-in-collect
returns-in-collect c = record { order = orders_collect _ _ c.collect_order.result (split_words c.args.words.now _ _ c.in-collect.len_at_least c.in-collect.is-collect) c.collect_order.ensures.order }

pub returns-in-follow : goal.returns-in-follow
returns-in-follow c = record { order = orders_follow _ _ c.follow_order.result (split_words c.args.words.now _ _ c.in-follow.len_at_least c.in-follow.is-follow) c.follow_order.ensures.order }
