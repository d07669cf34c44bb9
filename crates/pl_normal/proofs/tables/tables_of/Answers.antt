use Rattle.std.proofs.Common.{◌≡◌, ◌∷◌, ◌++◌, ◌∙◌, [], ap, append_assoc, arith, length, length-append, rules}
use Rattle.std.proofs.Common.{sym}
use Rattle.pl_normal.proofs.Tabling.{statics_more}
use Rattle.pl_normal.proofs.tables.tables_of.Goals as goal

pub loop-builder-preserved : goal.loop-builder-preserved
loop-builder-preserved c =
    let many : c.len-in-loop-builder.result ≡ length c.loop-builder.tables.items = search rules in
    record {
      all = append_assoc c.loop-builder.yielded (c.in-Some.builder ∷ []) c.next.new.self.rest.items
          ∙ ap (λ rest. c.loop-builder.yielded ++ rest) (sym c.in-Some.ensures.steps.0)
          ∙ c.loop-builder.invariant.all;
      many = (let long = ap length c.in_ok-push.ensures.items in
          let more = length-append c.loop-builder.tables.items (c.in_ok-static_table.field-0 ∷ []) in
          let done = length-append c.loop-builder.yielded (c.in-Some.builder ∷ []) in
          omega (arith, long, more, done, c.loop-builder.invariant.many));
      each = statics_more c.args.task.now c.loop-builder.tables.items c.push.new.self.items
          c.len-in-loop-builder.result c.in_ok-static_table.field-0 many c.in_ok-push.ensures.items
          c.in_ok-static_table.ensures c.loop-builder.invariant.each;
    }
