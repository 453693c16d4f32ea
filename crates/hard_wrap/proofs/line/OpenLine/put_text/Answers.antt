-- `put_text` meets its contract: the bytes pushed are those of the text. Assumes nothing.
use Rattle.hard_wrap.proofs.Closing.{puts}
use Rattle.hard_wrap.proofs.line.OpenLine.put_text.Goals as goal

pub returns-clause-puts_text : goal.returns-clause-puts_text
returns-clause-puts_text c =
    λ d₀ base b t cs. puts c.args.self.now c.push_str.new.self d₀ c.args.part.now base c.args.tag c.args.used b t cs c.push_str.ensures.items
