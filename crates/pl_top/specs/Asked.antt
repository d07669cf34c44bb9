-- The request that the code's request names.
use Rattle.std.specs.Prelude.{ℕ, List, Option, Vec}
use Rattle.std.specs.Global.{Global}
use Rattle.std.specs.Option.{option_map}
use denote.Ref.{Bor}
use Rattle.pl_registry.specs.declared.search.Search.{Search}
use Rattle.pl_registry.specs.declared.search.Search.TheVariants as search
use Rattle.pl_top.specs.declared.plan_options.Kind.{Kind}
use Rattle.pl_top.specs.declared.plan_options.Kind.TheVariants as kind
use Rattle.pl_top.specs.declared.plan_options.PlanOptions.{PlanOptions}
use Rattle.pl_top.specs.declared.request.Options.{Options as AskedOptions}
use Rattle.pl_top.specs.declared.request.Request.{Request as Asked}
use Rattle.pl_top.specs.declared.request.Request.TheVariants as asked
use Rattle.pl_top.specs.Request as words

-- the bytes that are lent, where some are
abbrev pub bytes_in : Option (Bor (List ℕ)) → Option (List ℕ)
bytes_in lent = option_map (λ (bytes : Bor (List ℕ)). bytes.now) lent

-- the bytes that are kept, where some are
abbrev pub items_in : Option (Vec ℕ Global) → Option (List ℕ)
items_in kept = option_map (λ (bytes : Vec ℕ Global). bytes.items) kept

abbrev pub options_named : AskedOptions → words.Options
options_named options = record {
  after = bytes_in options.after;
  past = bytes_in options.past;
  count = options.count;
}

abbrev pub kind_named : Kind → Search
kind_named kind.Bfs = search.Bfs
kind_named kind.Gbfs = search.Gbfs
kind_named kind.Iw1 = search.Iw1
kind_named kind.Iw2 = search.Iw2

abbrev pub plan_options_named : PlanOptions → words.PlanOptions
plan_options_named options = record {
  search = option_map kind_named options.search;
  limit = options.limit;
  stats = options.stats;
}

abbrev pub named : Asked → words.Request
named (asked.Validate domain problem plan) = words.Validate domain.now problem.now plan.now
named (asked.Successors domain problem options) = words.Successors domain.now problem.now
    (options_named options)
named (asked.Make kind n start) = words.Make kind n start
named (asked.Plan domain problem options) =
    words.FindPlan domain.now problem.now (plan_options_named options)
