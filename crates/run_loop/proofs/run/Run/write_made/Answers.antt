use Rattle.std.proofs.Common.{◌≡◌, [], rules, length, ap, arith}
use Rattle.std.specs.List.{concat}
use Rattle.run_loop.specs.Report.{blocks_in}
use Rattle.command_words.specs.declared.command.Mode.TheVariants.{Made}
use Rattle.run_loop.proofs.run.Run.write_made.Goals as goal

pub add_hands-requires-clause-small : goal.add_hands-requires-clause-small
add_hands-requires-clause-small g c =
    let law = c.law_made_text_is_short.ensures c.args.self.now.asked.seed c.args.self.now.asked.hands c.requires.few in
    let text = ap length c.deref.ensures.value in
    let made = ap length c.in_ok-text.ensures.made in
    let few = c.requires.few in
    omega (arith, law, text, made, few)

pub returns-in-Ok : goal.returns-in-Ok
returns-in-Ok g c =
    let made : c.write.new.out.items ≡ concat (blocks_in Made c.args.self.now.asked []) = search rules in
    (rw (c.deref-2.ensures.value, made) at c.in-Ok.ensures.order, search rules)

pub returns : goal.returns
returns g c =
    let made : c.write.new.out.items ≡ concat (blocks_in Made c.args.self.now.asked []) = search rules in
    (_, rw (c.deref-2.ensures.value, made) at c.in-Err.ensures.order)
